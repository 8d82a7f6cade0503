-- The greatest GBC that the counters so far say.
use Rattle.std.proofs.Common.{◌≡◌, take}
use Rattle.ss_review.specs.counted.Kept.{gbc_in}
use Rattle.ss_review.specs.counted.KeptSoFar.{led_to}
use Rattle.ss_answers.proofs.counters.start.greatest_gbc.Given as goal

abbrev pub invariant-loop-counter : goal.invariant-loop-counter
invariant-loop-counter l = l.greatest ≡ gbc_in (led_to (take l.counter-index l.own))
