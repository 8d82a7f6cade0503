-- Which of the blocks so far are kept.
use Rattle.std.proofs.Common.{◌≡◌, ℕ, List, take, map, All}
use Rattle.ss_review.specs.sessions.Sectioned.{sections}
use Rattle.ss_review.specs.sessions.Sessions.{of_session}
use Rattle.ss_review.specs.sessions.Verified.{answers}
use Rattle.ss_review.specs.pinned.Finding.{session_claimed, section_claimed, AreFoundRight}
use Rattle.ss_review.specs.pinned.Pinned.{keeps}
use Rattle.ss_review.proofs.pinned.keeping.marks.Given as goal

abbrev pub invariant-loop-block : goal.invariant-loop-block
invariant-loop-block g l = (ps : List (List ℕ))
    → map session_claimed l.sessions ≡ map (section_claimed (answers g.J.Judge.trusted g.J.Judge.valid l.judge) ps) (sections l.blocks)
    → All (AreFoundRight (answers g.J.Judge.trusted g.J.Judge.valid l.judge)) l.sessions
    → l.marks.items ≡ map (λ b. keeps (answers g.J.Judge.trusted g.J.Judge.valid l.judge) ps (of_session l.blocks b.session) b) (take l.block-index l.blocks)
