use Rattle.std.proofs.Common.{rules, get_or, sym, ap, subst, ◌∙◌}
use Rattle.std.proofs.lemmas.Fn.{always_returns_same}
use Rattle.ss_block.specs.Order.{session_cmp}
use Rattle.ss_review.specs.declared.report.session_report.SessionReport.{SessionReport}
use Rattle.ss_review.specs.report.Verdict.{is_joined}
use Rattle.ss_report.specs.runs.CarriedSoFar.{IsToldJoined}
use Rattle.ss_report.proofs.of_carrying.ToldSessions.{told_joined, told_unjoined, told_nowhere}
use Rattle.ss_report.proofs.runs.lookups.joined_session.Goals as goal

pub returns-then-is_joined : goal.returns-then-is_joined
returns-then-is_joined c =
    let r = c.args.report.now in
    let s = c.args.session.now in
    let i = c.in-Ok.index in
    let d = c.index-sessions-index.result in
    let same = c.as_slice-sessions.ensures in
    let tie = c.in-Ok.ensures.position (λ (t : SessionReport). session_cmp t.session s) (always_returns_same _ _ _ (λ a r q k. search rules)) d in
    let is = c.index-sessions-index.is ∙ ap (λ ts. get_or ts i d) same in
    let joined = sym (ap (λ (t : SessionReport). is_joined t.state) is) ∙ (sym c.is_joined.ensures ∙ c.if-is_joined.true) in
    subst (IsToldJoined r s) (sym is) (told_joined r s c.requires i d (rw same at c.in-Ok.ensures.bound) (rw same at tie) joined)

pub returns-else-is_joined : goal.returns-else-is_joined
returns-else-is_joined c =
    let s = c.args.session.now in
    let i = c.in-Ok.index in
    let d = c.index-sessions-index.result in
    let same = c.as_slice-sessions.ensures in
    let tie = c.in-Ok.ensures.position (λ (t : SessionReport). session_cmp t.session s) (always_returns_same _ _ _ (λ a r q k. search rules)) d in
    let is = c.index-sessions-index.is ∙ ap (λ ts. get_or ts i d) same in
    let unjoined = sym (ap (λ (t : SessionReport). is_joined t.state) is) ∙ (sym c.is_joined.ensures ∙ c.if-is_joined.false) in
    told_unjoined c.args.report.now s c.requires i d (rw same at c.in-Ok.ensures.bound) (rw same at tie) unjoined

pub returns-in-Err : goal.returns-in-Err
returns-in-Err c =
    told_nowhere c.args.report.now c.args.session.now c.requires c.in-Err.field-0
    (rw c.as_slice-sessions.ensures at (c.in-Err.ensures.position (λ (t : SessionReport). session_cmp t.session c.args.session.now) (always_returns_same _ _ _ (λ a r q k. search rules))))
