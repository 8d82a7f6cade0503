use Rattle.std.proofs.Common.{◌≡◌}
use Rattle.std.specs.List.{range_with_len}
use Rattle.ss_origin.specs.Slots.{next_numbers}
use Rattle.ss_origin.proofs.slots.Slots.next_numbers.Given as goal

abbrev pub invariant-loop-spri : goal.invariant-loop-spri
invariant-loop-spri l = l.numbers.items ≡ next_numbers l.self (range_with_len 0 l.spri)
