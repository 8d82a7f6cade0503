-- The sixteen places of a run, and which fragments belong to it.
use Rattle.std.specs.Prelude.{◌≡◌, ℕ, ◌+◌, ◌/◌, ◌<◌, ◌≤◌, true, false, List, length, slice_index, slice_index_or}
use Rattle.ss_payload.specs.declared.joiner.slot.Slot.{Slot}
use Rattle.ss_payload.specs.declared.joiner.slot.Slot.TheVariants.{Empty, One}
use Rattle.ss_payload.specs.Slots.{joined_slot, slot_differs}

-- the first `count` octets of a piece were stated at the places from `at` on, and nothing at others
pub record IsWritten (old new : List Slot) (at : ℕ) (octets : List ℕ) (count : ℕ) : Type 0 where
  pub inside : (j : ℕ) → j < count
      → slice_index_or new (at + j) Empty ≡ joined_slot (slice_index_or old (at + j) Empty) (slice_index octets j)
  pub before : (k : ℕ) → k < at → slice_index_or new k Empty ≡ slice_index_or old k Empty
  pub behind : (k : ℕ) → at + count ≤ k → slice_index_or new k Empty ≡ slice_index_or old k Empty

-- another octet was stated at some place of a piece
abbrev pub SomeDiffersIn : List Slot → ℕ → List ℕ → Type 0
SomeDiffersIn run at octets =
    (j : ℕ) × (j < length octets) × (slot_differs (slice_index_or run (at + j) Empty) (slice_index octets j) ≡ true)

-- no other octet was stated at the first `count` places of a piece
abbrev pub NoneDiffersIn : List Slot → ℕ → List ℕ → ℕ → Type 0
NoneDiffersIn run at octets count =
    (j : ℕ) → j < count → slot_differs (slice_index_or run (at + j) Empty) (slice_index octets j) ≡ false

-- the octets at `count` places from `at` on were written after a text
pub record IsPushed (old new : List ℕ) (run : List Slot) (at count : ℕ) : Type 0 where
  pub long : length new ≡ length old + count
  pub kept : (k : ℕ) → k < length old → slice_index new k ≡ slice_index old k
  pub said : (j : ℕ) → j < count → slice_index_or run (at + j) Empty ≡ One (slice_index new (length old + j))

-- an index of a fragment lies in the run with that number
abbrev pub BelongsTo : ℕ → ℕ → ℕ → Type 0
BelongsTo number index count = (j : ℕ) × (j < count) × ((index + j) / 16 ≡ number)
