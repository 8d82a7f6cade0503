use Rattle.std.proofs.Common.{sym, ap, ◌∙◌, arith}
use Rattle.std.proofs.lemmas.Bool.{not-true, not-false}
use Rattle.ss_block.specs.declared.session.Session.{Session}
use Rattle.ss_review.specs.sessions.Sessions.{same_session}
use Rattle.ss_review.proofs.of_sessions.BySession.{front_more, front_over}
use Rattle.ss_review.proofs.sessions.sectioning.front_len.Goals as goal

pub returns-then-ne-clause-front : goal.returns-then-ne-clause-front
returns-then-ne-clause-front c =
    let other = ap (λ (s : Session). same_session s c.args.session.now) (sym c.session.ensures) ∙ not-true _ (sym c.if-ne.ensures) in
    let none = front_over c.args.session.now c.args.blocks.now c.loop-index.index c.index-blocks-index.result c.loop-index-test.true c.index-blocks-index.is other in
    omega (arith, none, c.loop-index.invariant)

pub loop-index-preserved : goal.loop-index-preserved
loop-index-preserved c =
    let same = ap (λ (s : Session). same_session s c.args.session.now) (sym c.session.ensures) ∙ not-false _ (sym c.if-ne.ensures) in
    let more = front_more c.args.session.now c.args.blocks.now c.loop-index.index c.index-blocks-index.result c.loop-index-test.true c.index-blocks-index.is same in
    omega (arith, more, c.loop-index.invariant)
