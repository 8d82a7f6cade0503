-- The spans of the blocks so far.
use Rattle.std.proofs.Common.{◌≡◌, take, map, filter}
use Rattle.ss_review.specs.sessions.Payloads.{certificates}
use Rattle.ss_review.specs.sessions.Verified.{answers, is_valid}
use Rattle.ss_review.specs.sessions.Covering.{spans_of}
use Rattle.ss_review.specs.sessions.FoundBlocks.{KeepsWhatHolds}
use Rattle.ss_review.proofs.sessions.accepting.accepted_spans.Given as goal

abbrev pub invariant-loop-message : goal.invariant-loop-message
invariant-loop-message g l =
    (l.spans.items ≡ spans_of (certificates (filter (is_valid (answers g.J.Judge.trusted g.J.Judge.valid l.judge) l.payload) (map (λ b. b.now) (take l.message-index l.blocks)))))
    × KeepsWhatHolds (is_valid (answers g.J.Judge.trusted g.J.Judge.valid l.judge) l.payload) l.found
