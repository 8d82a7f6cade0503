-- What the blocks so far state of each session.
use Rattle.std.proofs.Common.{◌≡◌, length, take, map}
use Rattle.ss_review.specs.sessions.Sessions.{sessions}
use Rattle.ss_review.specs.sessions.Verified.{Answers, is_verified}
use Rattle.ss_review.specs.announced.Numbered.{session_with_joined, sessions_joined}
use Rattle.ss_review.specs.counted.CountedSoFar.{found_of, found_among}
use Rattle.ss_review.proofs.counted.counting.found_in.Given as goal

abbrev pub invariant-loop-block : goal.invariant-loop-block
invariant-loop-block l = (says : Answers) → map session_with_joined l.sessions ≡ sessions_joined says l.blocks → l.verified ≡ map (is_verified says l.blocks) l.blocks
    → map found_of l.found.items ≡ found_among (is_verified says l.blocks) (sessions l.blocks) (take (length l.yielded) l.blocks)
