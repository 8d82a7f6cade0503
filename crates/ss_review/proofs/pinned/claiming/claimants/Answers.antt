use Rattle.std.proofs.Common.{[], ◌∷◌, ◌++◌, All, sym, ap, ◌∙◌, subst}
use Rattle.std.proofs.lemmas.List.{map-append}
use Rattle.std.proofs.lemmas.List.Elements.{All-push}
use Rattle.ss_review.specs.declared.pinned.claimant.Claimant.{Claimant}
use Rattle.ss_review.specs.sessions.Sectioned.{referred}
use Rattle.ss_review.specs.sessions.Verified.{answers}
use Rattle.ss_review.specs.pinned.Finding.{payloads_of, IsClaimantIf, IsFoundRight}
use Rattle.ss_review.proofs.of_pinned.Finding.{one_claimant, no_claimant}
use Rattle.ss_review.proofs.pinned.claiming.claimants.Goals as goal
use Rattle.ss_review.proofs.pinned.claiming.claimants.Goals.{in-Some+in_ok-push-in-Some, in-None}

pub loop-payload-preserved : goal.loop-payload-preserved
loop-payload-preserved g c =
    let says = answers g.J.Judge.trusted g.J.Judge.valid c.args.judge.now in
    let own = referred c.args.blocks.now in
    let ps = c.args.payloads.now in
    let i = c.loop-payload.payload-index in
    let p = c.payload-item.result in
    let below = c.loop-payload-test.true in
    let had = c.loop-payload.invariant in
    elim c.match-branch-2.branch [
      | in-Some+in_ok-push-in-Some w ↦ (
          let is = subst (IsClaimantIf says own p) w.in-Some.is c.in_ok-claimant.ensures in
          let items = (λ j. (w.claimants-is j).items) ∙ w.in_ok-push-in-Some.ensures.items in (
            ap payloads_of items
                ∙ map-append (λ (d : Claimant). d.payload.now) c.loop-payload.claimants.items (w.in-Some.claimant ∷ [])
                ∙ (λ j. had.0 j ++ is.1 j ∷ [])
                ∙ sym (one_claimant says own ps i p below c.payload-item.is is.0),
            subst (All (IsFoundRight says)) (sym items) (All-push (IsFoundRight says) c.loop-payload.claimants.items w.in-Some.claimant had.1 is.2),
          ))
      | in-None w ↦ (
          let is = subst (IsClaimantIf says own p) w.in-None.is c.in_ok-claimant.ensures in (
            (λ j. payloads_of (w.claimants-is j).items) ∙ had.0 ∙ sym (no_claimant says own ps i p below c.payload-item.is is),
            subst (All (IsFoundRight says)) (sym (λ j. (w.claimants-is j).items)) had.1,
          ))
    ]
