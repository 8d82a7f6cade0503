-- Those of the payloads so far that claim the session.
use Rattle.std.proofs.Common.{◌≡◌, take, All}
use Rattle.ss_review.specs.sessions.Sectioned.{referred}
use Rattle.ss_review.specs.sessions.Verified.{answers}
use Rattle.ss_review.specs.pinned.Finding.{payloads_of, IsFoundRight}
use Rattle.ss_review.specs.pinned.Pinned.{claimants}
use Rattle.ss_review.proofs.pinned.claiming.claimants.Given as goal

abbrev pub invariant-loop-payload : goal.invariant-loop-payload
invariant-loop-payload g l =
    (payloads_of l.claimants.items ≡ claimants (answers g.J.Judge.trusted g.J.Judge.valid l.judge) (take l.payload-index l.payloads) (referred l.blocks))
    × All (IsFoundRight (answers g.J.Judge.trusted g.J.Judge.valid l.judge)) l.claimants.items
