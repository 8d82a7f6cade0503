-- The next numbers of the groups below an SPRI.
use Rattle.std.proofs.Common.{◌≡◌}
use Rattle.std.specs.List.{flat_map, range_with_len}
use Rattle.ss_review.specs.counted.Kept.{number_in}
use Rattle.ss_review.specs.counted.KeptSoFar.{led_to}
use Rattle.ss_answers.specs.Start.{number_if_said}
use Rattle.ss_answers.proofs.counters.start.next_numbers.Given as goal

abbrev pub invariant-loop-spri : goal.invariant-loop-spri
invariant-loop-spri l = l.numbers.items ≡ flat_map (λ spri. number_if_said spri (number_in (led_to l.own) (record { sg = l.sg; spri = spri }))) (range_with_len 0 l.spri)
