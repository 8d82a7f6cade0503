-- References to the counters so far.
use Rattle.std.proofs.Common.{◌≡◌, take}
use Rattle.ss_review.specs.counted.KeptSoFar.{led_to}
use Rattle.ss_review.proofs.counted.kept.references.Given as goal

abbrev pub invariant-loop-counter : goal.invariant-loop-counter
invariant-loop-counter l = led_to l.references.items ≡ take l.counter-index l.counters
