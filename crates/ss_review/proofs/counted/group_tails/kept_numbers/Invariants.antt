-- The numbers that the counters so far say.
use Rattle.std.proofs.Common.{take}
use Rattle.ss_review.specs.counted.KeptSoFar.{led_to, KeepsNumbers}
use Rattle.ss_review.proofs.counted.group_tails.kept_numbers.Given as goal

abbrev pub invariant-loop-counter : goal.invariant-loop-counter
invariant-loop-counter l = KeepsNumbers l.numbers (led_to (take l.counter-index l.own))
