use Rattle.std.proofs.Common.{List, rules, get_or, sym, ap, ◌∙◌}
use Rattle.std.proofs.lemmas.Fn.{always_returns_same}
use Rattle.ss_block.specs.Order.{session_cmp}
use Rattle.ss_review.specs.declared.report.session_report.SessionReport.{SessionReport}
use Rattle.ss_review.specs.report.Verdict.{is_joined}
use Rattle.ss_report.proofs.of_carrying.ToldSessions.{told_nowhere}
use Rattle.ss_report.proofs.of_strangers.SameNames.{joined_alone}
use Rattle.ss_report.proofs.strangers.fellows.is_joined_in.Goals as goal

pub returns-in-Ok : goal.returns-in-Ok
returns-in-Ok c = λ up.
    let r = c.args.report.now in
    let s = c.args.session.now in
    let i = c.in-Ok.index in
    let d = c.index-sessions-index.result in
    let same = c.as_slice-sessions.ensures in
    let tie = c.in-Ok.ensures.position (λ (t : SessionReport). session_cmp t.session s) (always_returns_same _ _ _ (λ a r q k. search rules)) d in
    c.is_joined.ensures
    ∙ ap (λ (ts : List SessionReport). is_joined (get_or ts i d).state) same
    ∙ sym (joined_alone r s up i d (rw same at c.in-Ok.ensures.bound) (rw same at tie))

pub returns-in-Err : goal.returns-in-Err
returns-in-Err c = λ up.
    sym (told_nowhere c.args.report.now c.args.session.now up c.in-Err.field-0
    (rw c.as_slice-sessions.ensures at (c.in-Err.ensures.position (λ (t : SessionReport). session_cmp t.session c.args.session.now) (always_returns_same _ _ _ (λ a r q k. search rules)))))
