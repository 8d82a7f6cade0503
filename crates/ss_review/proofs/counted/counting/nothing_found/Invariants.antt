-- The sessions so far.
use Rattle.std.proofs.Common.{◌≡◌, take, map}
use Rattle.ss_review.specs.counted.CountedSoFar.{found_of, nothing_of}
use Rattle.ss_review.proofs.counted.counting.nothing_found.Given as goal

abbrev pub invariant-loop-session : goal.invariant-loop-session
invariant-loop-session l = map found_of l.found.items ≡ map nothing_of (take l.session-index l.sessions)
