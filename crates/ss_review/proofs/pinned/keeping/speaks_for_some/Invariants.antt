-- The block speaks for none of the claimants so far.
use Rattle.std.proofs.Common.{◌≡◌, false, take, All}
use Rattle.std.specs.List.{list_any}
use Rattle.ss_review.specs.sessions.Verified.{answers}
use Rattle.ss_review.specs.pinned.Finding.{payloads_of, IsFoundRight}
use Rattle.ss_review.specs.pinned.Pinned.{speaks_for}
use Rattle.ss_review.proofs.pinned.keeping.speaks_for_some.Given as goal

abbrev pub invariant-loop-claimant : goal.invariant-loop-claimant
invariant-loop-claimant g l =
    All (IsFoundRight (answers g.J.Judge.trusted g.J.Judge.valid l.judge)) l.claimants
    → list_any (λ p. speaks_for (answers g.J.Judge.trusted g.J.Judge.valid l.judge) p l.block) (payloads_of (take l.claimant-index l.claimants)) ≡ false
