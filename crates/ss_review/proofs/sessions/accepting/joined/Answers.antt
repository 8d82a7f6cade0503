use Rattle.std.proofs.Common.{◌≡◌, map, Bor, sym, ap, ◌∙◌, subst}
use Rattle.std.specs.Prelude.{IfOk}
use Rattle.ss_review.specs.keep.BlockMessage.{BlockMessage}
use Rattle.ss_review.specs.questions.Questions.{asked, AreAskable}
use Rattle.ss_review.specs.sessions.Verified.{answers, judged, joined}
use Rattle.ss_review.proofs.sessions.accepting.joined.Goals as goal

pub judged-requires-clause-askable : goal.judged-requires-clause-askable
judged-requires-clause-askable g c =
    let bs = map (λ (m : Bor BlockMessage). m.now) c.args.blocks.now in
    subst (λ r. AreAskable g.J.Judge.askable c.args.judge.now (asked bs r)) (sym c.in_ok-payload.ensures ∙ c.in-Ok.is) c.requires.askable

pub returns-in-Ok : goal.returns-in-Ok
unfolding joined
returns-in-Ok g c =
    let says = answers g.J.Judge.trusted g.J.Judge.valid c.args.judge.now in
    let bs = map (λ (m : Bor BlockMessage). m.now) c.args.blocks.now in
    subst (λ p. IfOk c.judged.result (λ r. r ≡ judged says bs p)) (sym c.in-Ok.is ∙ c.in_ok-payload.ensures) c.judged.ensures

pub returns-in-Err : goal.returns-in-Err
unfolding joined
returns-in-Err g c =
    let says = answers g.J.Judge.trusted g.J.Judge.valid c.args.judge.now in
    let bs = map (λ (m : Bor BlockMessage). m.now) c.args.blocks.now in
    ap (judged says bs) (sym c.in-Err.is ∙ c.in_ok-payload.ensures)
