-- What is missing of the sessions so far.
use Rattle.std.proofs.Common.{◌≡◌, length, take, map}
use Rattle.std.specs.List.{zip}
use Rattle.ss_review.specs.counted.Kept.{shortfall_beside, AreReviewed}
use Rattle.ss_review.specs.counted.KeptSoFar.{led_to, StandBySession}
use Rattle.ss_review.proofs.counted.log_shortfalls.known_shortfalls.Given as goal

abbrev pub invariant-loop-session : goal.invariant-loop-session
invariant-loop-session l = StandBySession l.sorted → AreReviewed l.sessions l.counted → l.known.items ≡ map (shortfall_beside (led_to l.sorted)) (take (length l.yielded) (zip l.sessions l.counted))
