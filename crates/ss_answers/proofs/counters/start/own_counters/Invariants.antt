-- The counters of the session so far.
use Rattle.std.proofs.Common.{◌≡◌, take}
use Rattle.ss_review.specs.counted.Kept.{counters_of}
use Rattle.ss_review.specs.counted.KeptSoFar.{led_to}
use Rattle.ss_answers.proofs.counters.start.own_counters.Given as goal

abbrev pub invariant-loop-counter : goal.invariant-loop-counter
invariant-loop-counter l = led_to l.own.items ≡ counters_of (take l.counter-index l.counters) l.session
