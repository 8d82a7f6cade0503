use Rattle.std.proofs.Common.{◌&&◌, refl, sym, ap, ◌∙◌}
use Rattle.std.proofs.lemmas.Result.{IfOk-weaker}
use Rattle.ss_review.specs.sessions.Verified.{answers, is_valid}
use Rattle.ss_review.proofs.pinned.claiming.speaks_once.Goals as goal

pub returns-then-branch-clause-speaks : goal.returns-then-branch-clause-speaks
returns-then-branch-clause-speaks g c = λ had.
    let says = answers g.J.Judge.trusted g.J.Judge.valid c.args.judge.now in
    let p = c.args.payload.now in
    IfOk-weaker c.valid_once.result _ _ (λ b e. e ∙ ap (λ a. a && is_valid says p c.args.message.now) (sym (sym c.in_ok-agrees_in.ensures ∙ c.if-branch.true)))
    (c.valid_once.ensures.valid (is_valid says p) had refl)
