use Rattle.std.proofs.Common.{sym, ap, ◌∙◌}
use Rattle.std.proofs.lemmas.List.Elements.{All-get_or}
use Rattle.ss_review.specs.declared.pinned.claimant.Claimant.{Claimant}
use Rattle.ss_review.specs.sessions.Verified.{answers}
use Rattle.ss_review.specs.pinned.Finding.{IsFoundRight}
use Rattle.ss_review.specs.pinned.Pinned.{speaks_for}
use Rattle.std.proofs.Common.{subst}
use Rattle.ss_review.proofs.of_pinned.Keeping.{some_passes, none_passes}
use Rattle.ss_review.proofs.pinned.keeping.speaks_for_some.Goals as goal

pub returns-then-branch : goal.returns-then-branch
returns-then-branch g c = λ right.
    let says = answers g.J.Judge.trusted g.J.Judge.valid c.args.judge.now in
    let xs = c.args.claimants.now in
    let i = c.loop-claimant.claimant-index in
    let x = c.claimant-item.result in
    let mine : IsFoundRight says x = subst (IsFoundRight says) (sym c.claimant-item.is) (All-get_or (IsFoundRight says) xs i x c.loop-claimant-test.true right) in
    sym (some_passes (λ p. speaks_for says p c.args.block.now) (λ (d : Claimant). d.payload.now) xs i x c.loop-claimant-test.true
    (ap (λ (d : Claimant). speaks_for says d.payload.now c.args.block.now) (sym c.claimant-item.is) ∙ sym (c.in_ok-speaks.ensures mine) ∙ c.if-branch.true))

pub loop-claimant-preserved : goal.loop-claimant-preserved
loop-claimant-preserved g c = λ right.
    let says = answers g.J.Judge.trusted g.J.Judge.valid c.args.judge.now in
    let xs = c.args.claimants.now in
    let i = c.loop-claimant.claimant-index in
    let x = c.claimant-item.result in
    let mine : IsFoundRight says x = subst (IsFoundRight says) (sym c.claimant-item.is) (All-get_or (IsFoundRight says) xs i x c.loop-claimant-test.true right) in
    none_passes (λ p. speaks_for says p c.args.block.now) (λ (d : Claimant). d.payload.now) xs i x c.loop-claimant-test.true
    (ap (λ (d : Claimant). speaks_for says d.payload.now c.args.block.now) (sym c.claimant-item.is) ∙ sym (c.in_ok-speaks.ensures mine) ∙ c.if-branch.false)
    (c.loop-claimant.invariant right)
