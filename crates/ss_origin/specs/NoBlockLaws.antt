-- Which numbers are in no block that a chain sent.
use Rattle.std.specs.Prelude.{◌≡◌, ℕ, List, ◌∷◌, ◌++◌, Option}
use Rattle.std.specs.List.{Contains}
use Rattle.ss_message.specs.Stamp.{Moment}
use Rattle.ss_block.specs.declared.block.Group.{Group}
use Rattle.ss_block.specs.declared.reading.Reading.TheVariants as readings
use Rattle.ss_block.specs.Block as block
use Rattle.ss_block.specs.Reading.{reading}
use Rattle.ss_origin.specs.Groups.{group_of}
use Rattle.ss_origin.specs.Calls.{Submit, spri_in}
use Rattle.ss_origin.specs.Setting.{Setting}
use Rattle.ss_origin.specs.Chain.{Turn, IsChain, emitted_by}
use Rattle.ss_origin.specs.SignedLaws.{number_behind, IsPending}
use Rattle.ss_origin.specs.OneBlockLaws.{Covers}

-- None of these messages is read as a signature block with a hash for the number of the group.
abbrev pub HaveNoBlock : List (List ℕ) → Group → ℕ → Type 0
HaveNoBlock sent group number = (m : List ℕ) (b : block.Signature) → Contains sent m → reading m ≡ readings.Signature b
    → ¬ Covers b group number

-- The number of a message that is pending at the end of its originator is in no block of the chain. So it is whether
-- the originator is the last or others follow: these don't sign what one before them left.
abbrev pub PendingMessagesAreInNoBlock : Type 0
PendingMessagesAreInNoBlock =
    (s : Setting) (newer older : List (List Turn)) (later earlier : List Turn) (t : Turn) (message : List ℕ)
    (stamp : Option Moment)
    → let chain = newer ++ (later ++ t ∷ earlier) ∷ older in
    IsChain s chain → t.call ≡ Submit message stamp → IsPending s.config later t earlier message
    → HaveNoBlock (emitted_by chain) (group_of s.config.grouping (spri_in s.config.grouping message))
    (number_behind s.config older earlier message)
