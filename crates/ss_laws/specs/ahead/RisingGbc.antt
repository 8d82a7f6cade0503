-- How the signature blocks of originators that go on ahead are counted by GBC (RFC 5848, section 4.2.4).
use Rattle.std.specs.Prelude.{◌≡◌, ◌⊎◌, ℕ, ◌+◌, ◌<◌, List, ◌∷◌, ◌++◌, length, filter, replicate}
use Rattle.std.specs.List.{AllByRecursion, AllPairs, Contains, flat_map, enumerate_from}
use Rattle.ss_block.specs.declared.reading.Reading.TheVariants as readings
use Rattle.ss_block.specs.Block as block
use Rattle.ss_block.specs.Reading.{reading}
use Rattle.ss_origin.specs.declared.config.Config.{Config}
use Rattle.ss_origin.specs.CountedLaws.{sent_in_turns, sent_in_order, is_signature, HasGbc}
use Rattle.ss_origin.specs.Setting.{Setting}
use Rattle.ss_origin.specs.Ahead.{Life, ended_with, IsChainAhead}
use Rattle.ss_review.specs.deliveries.AheadDelivery.{turns_in}

-- ---- one originator

-- The signature blocks among what an originator sent, in order: some messages, each `copies` times in a row. The first
-- of them has the GBC with which the originator began, and each next one a GBC that is one greater. The next GBC with
-- which it ended is one greater than that of the last, or the one with which it began if there is none.
pub record AreCountedFrom (c : Config) (l : Life) : Type 0 where
  pub messages : List (List ℕ)
  pub sent : filter (λ m. is_signature (reading m)) (sent_in_turns l.turns) ≡ flat_map (λ m.
      replicate c.copies m) messages
  pub counted : AllByRecursion HasGbc (enumerate_from l.start.counters.gbc messages)
  pub next : (ended_with c l).gbc ≡ l.start.counters.gbc + length messages

-- So it is of each originator of a chain that goes on ahead.
abbrev pub BlocksAheadAreCounted : Type 0
BlocksAheadAreCounted = (s : Setting) (newer older : List Life) (l : Life) → IsChainAhead s (newer ++ l ∷ older)
    → AreCountedFrom s.config l

-- ---- a chain

-- what the originators sent, in order
abbrev pub sent_ahead : List Life → List (List ℕ)
sent_ahead lives = sent_in_order (turns_in lives)

-- If both messages are read as signature blocks, the second has the greater GBC, or they are one message: a block and
-- its copy.
abbrev pub HasGreaterGbcOrIsCopy : List ℕ → List ℕ → Type 0
HasGreaterGbcOrIsCopy m n = (a b : block.Signature) → reading m ≡ readings.Signature a
    → reading n ≡ readings.Signature b → (a.gbc < b.gbc) ⊎ (m ≡ n)

-- the GBC of each signature block among these messages is below this one
abbrev pub AreBelowGbc : List (List ℕ) → ℕ → Type 0
AreBelowGbc sent next = (m : List ℕ) (b : block.Signature) → Contains sent m → reading m ≡ readings.Signature b
    → b.gbc < next

-- Of two signature blocks that a chain sent, the later one has the greater GBC, or it is a copy of the earlier one. All
-- of them are below the next GBC with which the newest originator ended.
abbrev pub GbcRises : Type 0
GbcRises = (s : Setting) (newest : Life) (older : List Life) → IsChainAhead s (newest ∷ older)
    → let sent = sent_ahead (newest ∷ older) in
    AllPairs HasGreaterGbcOrIsCopy sent × AreBelowGbc sent (ended_with s.config newest).gbc
