-- How the signature blocks of a chain are counted by GBC (RFC 5848, section 4.2.4).
use Rattle.std.specs.Prelude.{◌≡◌, ℕ, Bool, true, false, List, [], ◌∷◌, ◌++◌, length, filter, replicate}
use Rattle.std.specs.List.{AllByRecursion, flat_map, enumerate_from}
use Rattle.ss_block.specs.declared.reading.Reading.{Reading}
use Rattle.ss_block.specs.declared.reading.Reading.TheVariants as readings
use Rattle.ss_block.specs.Block as block
use Rattle.ss_block.specs.Reading.{reading}
use Rattle.ss_origin.specs.Setting.{Setting}
use Rattle.ss_origin.specs.Chain.{Turn, start_behind, IsChain}

-- what an originator sent, in order
abbrev pub sent_in_turns : List Turn → List (List ℕ)
sent_in_turns [] = []
sent_in_turns (t ∷ before) = sent_in_turns before ++ t.emitted

-- what the originators of a chain sent, in order
abbrev pub sent_in_order : List (List Turn) → List (List ℕ)
sent_in_order [] = []
sent_in_order (turns ∷ before) = sent_in_order before ++ sent_in_turns turns

abbrev pub is_signature : Reading → Bool
is_signature (readings.Signature b) = true
is_signature other = false

-- a message that is read as the signature block with this GBC
abbrev pub HasGbc : ℕ × List ℕ → Type 0
HasGbc numbered = (b : block.Signature) × (reading numbered.1 ≡ readings.Signature b) × (b.gbc ≡ numbered.0)

-- The signature blocks among what a chain sent, in order: some messages, each `copies` times in a row. The first of
-- them has the GBC 0, and each next one a GBC that is one greater. The chain's next GBC is how many they are.
pub record AreCounted (s : Setting) (chain : List (List Turn)) : Type 0 where
  pub messages : List (List ℕ)
  pub sent : filter (λ m. is_signature (reading m)) (sent_in_order chain) ≡ flat_map (λ m.
      replicate s.config.copies m) messages
  pub counted : AllByRecursion HasGbc (enumerate_from 0 messages)
  pub next : (start_behind s.config chain).counters.gbc ≡ length messages

abbrev pub SentBlocksAreCounted : Type 0
SentBlocksAreCounted = (s : Setting) (chain : List (List Turn)) → IsChain s chain → AreCounted s chain
