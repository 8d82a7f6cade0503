-- All spans so far end there, and all before it is covered.
use Rattle.ss_review.proofs.of_sessions.Covering.{IsReached}
use Rattle.ss_review.proofs.sessions.span.first_uncovered.Given as goal

abbrev pub invariant-loop-span : goal.invariant-loop-span
invariant-loop-span l = IsReached l.spans l.span-index l.reached
