-- Which of the blocks so far are verified.
use Rattle.std.proofs.Common.{◌≡◌, take, map}
use Rattle.ss_review.specs.sessions.Verified.{answers, is_verified}
use Rattle.ss_review.specs.announced.Numbered.{session_with_joined, sessions_joined}
use Rattle.ss_review.specs.sessions.FoundBlocks.{KeepsWhatHolds}
use Rattle.ss_review.proofs.sessions.verified.verified.Given as goal

abbrev pub invariant-loop-block : goal.invariant-loop-block
invariant-loop-block g l = map session_with_joined l.sessions ≡ sessions_joined (answers g.J.Judge.trusted g.J.Judge.valid l.judge) l.blocks
    → (l.verified.items ≡ map (is_verified (answers g.J.Judge.trusted g.J.Judge.valid l.judge) l.blocks) (take l.block-index l.blocks))
    × KeepsWhatHolds (is_verified (answers g.J.Judge.trusted g.J.Judge.valid l.judge) l.blocks) l.found
