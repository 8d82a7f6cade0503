-- Which of the blocks so far speak for the payload.
use Rattle.std.proofs.Common.{◌≡◌, take, map}
use Rattle.ss_review.specs.sessions.FoundBlocks.{KeepsWhatHolds}
use Rattle.ss_review.specs.sessions.Sectioned.{referred}
use Rattle.ss_review.specs.sessions.Verified.{answers, is_valid}
use Rattle.ss_review.specs.pinned.Pinned.{speaks_for}
use Rattle.ss_review.proofs.pinned.claiming.speaking.Given as goal

abbrev pub invariant-loop-message : goal.invariant-loop-message
invariant-loop-message g l =
    KeepsWhatHolds (is_valid (answers g.J.Judge.trusted g.J.Judge.valid l.judge) l.payload) l.fn.found
    → (l.speaking.items ≡ map (speaks_for (answers g.J.Judge.trusted g.J.Judge.valid l.judge) l.payload) (referred (take l.message-index l.blocks)))
    × KeepsWhatHolds (is_valid (answers g.J.Judge.trusted g.J.Judge.valid l.judge) l.payload) l.found
