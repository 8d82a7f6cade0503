-- What the blocks that a chain sent say.
use Rattle.std.specs.Prelude.{◌≡◌, ℕ, ◌+◌, ◌<◌, ◌≤◌, List, ◌∷◌, ◌++◌, length}
use Rattle.std.specs.List.{AllByRecursion, Contains}
use Rattle.ss_block.specs.declared.reading.Reading.TheVariants as readings
use Rattle.ss_block.specs.Block as block
use Rattle.ss_block.specs.Reading.{reading}
use Rattle.ss_origin.specs.Groups.{group_of}
use Rattle.ss_origin.specs.Calls.{messages_of, pending_of}
use Rattle.ss_origin.specs.Setting.{Setting}
use Rattle.ss_origin.specs.Chain.{Turn, calls_of, IsChain, given_to}
use Rattle.ss_origin.specs.BlockLaws.{AreNumbered}

-- The block is of the chain's configuration, and has the hashes of the messages that the chain was given for the
-- block's group, from the block's first number on.
pub record IsOfChain (s : Setting) (chain : List (List Turn)) (b : block.Signature) : Type 0 where
  pub spri : ℕ
  pub small : spri < 192
  pub alg : b.alg ≡ s.config.alg
  pub rsid : b.rsid ≡ s.config.rsid
  pub group : b.group ≡ group_of s.config.grouping spri
  pub numbered : AreNumbered s.config (given_to s.config spri chain) b.first b.hashes

-- each message that a chain sent and that is read as a signature block is such a block
abbrev pub SentBlocksAreNumbered : Type 0
SentBlocksAreNumbered = (s : Setting) (newer older : List (List Turn)) (later earlier : List Turn) (t : Turn)
    → let chain = newer ++ (later ++ t ∷ earlier) ∷ older in
    IsChain s chain → AllByRecursion (λ m.
    (b : block.Signature) → reading m ≡ readings.Signature b → IsOfChain s chain b) t.emitted

-- One of the turns sent a signature block of the group with a hash for this number.
pub record HasSentBlock (s : Setting) (turns : List Turn) (spri number : ℕ) : Type 0 where
  pub turn : Turn
  pub of_turns : Contains turns turn
  pub message : List ℕ
  pub sent : Contains turn.emitted message
  pub block : block.Signature
  pub read : reading message ≡ readings.Signature block
  pub group : block.group ≡ group_of s.config.grouping spri
  pub least : block.first ≤ number
  pub below : number < block.first + length block.hashes

-- Each message that an originator of a chain was given for a group, and that isn't pending at its end, has a hash in a
-- block that this originator sent. The message is given by its place among these messages, from 0.
abbrev pub OthersAreSent : Type 0
OthersAreSent = (s : Setting) (newer older : List (List Turn)) (turns : List Turn) → IsChain s (newer ++ turns ∷ older)
    → (spri j : ℕ) → spri < 192
    → j + length (pending_of s.config spri (calls_of turns))
    < length (messages_of s.config.grouping spri (calls_of turns))
    → HasSentBlock s turns spri (1 + length (given_to s.config spri older) + j)
