-- That a chain sends one block of a number, and of a GBC.
use Rattle.std.specs.Prelude.{◌≡◌, ℕ, ◌+◌, ◌<◌, ◌≤◌, List, length}
use Rattle.std.specs.List.{Contains}
use Rattle.ss_block.specs.declared.block.Group.{Group}
use Rattle.ss_block.specs.declared.reading.Reading.TheVariants as readings
use Rattle.ss_block.specs.Block as block
use Rattle.ss_block.specs.Reading.{reading}
use Rattle.ss_origin.specs.Setting.{Setting}
use Rattle.ss_origin.specs.Chain.{Turn, IsChain, emitted_by}
use Rattle.ss_origin.specs.Ahead.{Life, IsChainAhead, sent_by}

-- the block has a hash for this number of the group
pub record Covers (b : block.Signature) (group : Group) (number : ℕ) : Type 0 where
  pub own : b.group ≡ group
  pub least : b.first ≤ number
  pub below : number < b.first + length b.hashes

-- Of these messages, two that are read as signature blocks with a hash for one number of a group are one message: a
-- block and its copies.
abbrev pub HaveOneBlockANumber : List (List ℕ) → Type 0
HaveOneBlockANumber sent = (m n : List ℕ) (a b : block.Signature) (group : Group) (number : ℕ) → Contains sent m
    → Contains sent n
    → reading m ≡ readings.Signature a → reading n ≡ readings.Signature b → Covers a group number
    → Covers b group number → m ≡ n

-- And so are two with one GBC.
abbrev pub HaveOneBlockAGbc : List (List ℕ) → Type 0
HaveOneBlockAGbc sent = (m n : List ℕ) (a b : block.Signature) → Contains sent m → Contains sent n
    → reading m ≡ readings.Signature a → reading n ≡ readings.Signature b → a.gbc ≡ b.gbc → m ≡ n

-- what a chain sent is so
abbrev pub NumbersAreInOneBlock : Type 0
NumbersAreInOneBlock = (s : Setting) (chain : List (List Turn)) → IsChain s chain
    → HaveOneBlockANumber (emitted_by chain) × HaveOneBlockAGbc (emitted_by chain)

-- and what a chain sent that goes on ahead
abbrev pub NumbersAheadAreInOneBlock : Type 0
NumbersAheadAreInOneBlock = (s : Setting) (lives : List Life) → IsChainAhead s lives
    → HaveOneBlockANumber (sent_by lives) × HaveOneBlockAGbc (sent_by lives)
