use Rattle.std.proofs.Common.{◌≡◌, map}
use Rattle.std.specs.List.{range_with_len}
use Rattle.ss_origin.specs.Slots.{slot_from}
use Rattle.ss_origin.proofs.slots.Slots.from_numbers.Given as goal

abbrev pub invariant-loop-spri : goal.invariant-loop-spri
invariant-loop-spri l = l.slots.items ≡ map (slot_from l.numbers) (range_with_len 0 l.spri)
