-- The room that a joiner has. It has room for sixteen indexes at a time, the first of them a multiple of 16.
use Rattle.std.specs.Prelude.{ℕ, ◌⊎◌}
use Rattle.ss_payload.specs.declared.joiner.Joiner.{Joiner}
use Rattle.ss_payload.specs.Slots.{HasRun, HasRuns}
use Rattle.ss_payload.specs.RunSlots.{BelongsTo}

-- there is room for the sixteen indexes from 16 times the number on
abbrev pub HasRoom : Joiner → ℕ → Type 0
HasRoom joiner number = HasRun joiner.runs number

abbrev pub HasNoRoom : Joiner → Type 0
HasNoRoom joiner = (number : ℕ) → ¬ HasRoom joiner number

-- there is room for each index of a fragment
abbrev pub HasRoomFor : Joiner → ℕ → ℕ → Type 0
HasRoomFor joiner index count = HasRuns joiner.runs index count

-- there is the room from before, and else only room for sixteen indexes of which the fragment has at least one
abbrev pub GrowsFor : Joiner → Joiner → ℕ → ℕ → Type 0
GrowsFor old new index count = (number : ℕ) → HasRoom new number → HasRoom old number ⊎ BelongsTo number index count
