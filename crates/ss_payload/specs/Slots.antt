-- What was stated at each index, as the runs of a joiner keep it.
use Rattle.std.specs.Prelude.{◌≡◌, ℕ, ◌+◌, ◌/◌, ◌%◌, ◌<◌, ◌≤◌, Bool, true, false, not, eqb, cond, List, length}
use Rattle.std.specs.Prelude.{slice_index, slice_index_or, Option, None, Some, IsSome}
use Rattle.std.specs.Ordering.{nat_cmp}
use Rattle.std.specs.BTreeMap as tree
use Rattle.ss_payload.specs.declared.joiner.slot.Slot.{Slot}
use Rattle.ss_payload.specs.declared.joiner.slot.Slot.TheVariants.{Empty, One, Many}
use Rattle.ss_payload.specs.declared.joiner.runs.Runs.{Runs}

-- what is stated after an octet is stated too
abbrev pub joined_slot : Slot → ℕ → Slot
joined_slot Empty octet = One octet
joined_slot (One other) octet = cond (eqb other octet) (One other) Many
joined_slot Many octet = Many

-- whether another octet was stated
abbrev pub slot_differs : Slot → ℕ → Bool
slot_differs Empty octet = false
slot_differs (One other) octet = not (eqb other octet)
slot_differs Many octet = true

abbrev pub slot_in : Option (List Slot) → ℕ → Slot
slot_in None k = Empty
slot_in (Some run) k = slice_index_or run k Empty

-- what was stated at an index: the run has a sixteenth of the index as its number, and the place in it is the rest
unfoldable pub slot_at : Runs → ℕ → Slot
slot_at runs i = slot_in (tree.get nat_cmp runs.runs (i / 16)) (i % 16)

-- there is a run with that number
unfoldable pub HasRun : Runs → ℕ → Type 0
HasRun runs number = IsSome (tree.get nat_cmp runs.runs number)

-- each index of a fragment has its run
abbrev pub HasRuns : Runs → ℕ → ℕ → Type 0
HasRuns runs index count = (j : ℕ) → j < count → HasRun runs ((index + j) / 16)

-- one octet was stated
abbrev pub IsOne : Slot → Type 0
IsOne Empty = ⊥
IsOne (One octet) = Unit {0}
IsOne Many = ⊥

-- the first `count` octets of a fragment were stated at the indexes from `index` on, and nothing elsewhere
pub record IsPut (old new : Runs) (index : ℕ) (octets : List ℕ) (count : ℕ) : Type 0 where
  pub inside : (j : ℕ) → j < count
      → slot_at new (index + j) ≡ joined_slot (slot_at old (index + j)) (slice_index octets j)
  pub before : (i : ℕ) → i < index → slot_at new i ≡ slot_at old i
  pub behind : (i : ℕ) → index + count ≤ i → slot_at new i ≡ slot_at old i

-- another octet was stated at some index of a fragment
abbrev pub SomeDiffers : Runs → ℕ → List ℕ → Type 0
SomeDiffers runs index octets =
    (j : ℕ) × (j < length octets) × (slot_differs (slot_at runs (index + j)) (slice_index octets j) ≡ true)

-- no other octet was stated at the first `count` indexes of a fragment
abbrev pub NoneDiffers : Runs → ℕ → List ℕ → ℕ → Type 0
NoneDiffers runs index octets count =
    (j : ℕ) → j < count → slot_differs (slot_at runs (index + j)) (slice_index octets j) ≡ false

-- a text has the octets that were stated at the indexes from 1 to a total
pub record IsTextOf (runs : Runs) (text : List ℕ) (total : ℕ) : Type 0 where
  pub long : length text ≡ total
  pub said : (k : ℕ) → k < total → slot_at runs (k + 1) ≡ One (slice_index text k)
