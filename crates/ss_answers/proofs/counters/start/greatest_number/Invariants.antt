-- The greatest number that the counters so far say of a group.
use Rattle.std.proofs.Common.{◌≡◌, take}
use Rattle.ss_review.specs.counted.Kept.{number_in}
use Rattle.ss_review.specs.counted.KeptSoFar.{led_to}
use Rattle.ss_answers.proofs.counters.start.greatest_number.Given as goal

abbrev pub invariant-loop-counter : goal.invariant-loop-counter
invariant-loop-counter l = l.greatest ≡ number_in (led_to (take l.counter-index l.own)) l.group
