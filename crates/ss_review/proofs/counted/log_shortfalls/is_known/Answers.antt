use Rattle.std.proofs.Common.{rules, []}
use Rattle.std.proofs.lemmas.Fn.{always_returns_same}
use Rattle.ss_block.specs.Order.{session_cmp}
use Rattle.ss_review.specs.declared.report.session_report.SessionReport.{SessionReport}
use Rattle.ss_review.specs.declared.report.session_report.SessionState.TheVariants as states
use Rattle.ss_review.proofs.of_counters.KnownSessions.{known, unknown}
use Rattle.ss_review.proofs.counted.log_shortfalls.is_known.Goals as goal

pub returns-in-Ok : goal.returns-in-Ok
returns-in-Ok c = λ up.
    let s = c.args.session.now in
    let rs = c.args.sessions.now in
    let d : SessionReport = record { session = s; state = states.Incomplete; groups = [] } in
    known s rs c.in-Ok.field-0 d c.in-Ok.ensures.bound (c.in-Ok.ensures.position (λ (r : SessionReport). session_cmp r.session s) (always_returns_same _ _ _ (λ a r q k. search rules)) d)

pub returns-in-Err : goal.returns-in-Err
returns-in-Err c = λ up.
    unknown c.args.session.now c.args.sessions.now c.in-Err.field-0 up (c.in-Err.ensures.position (λ (r : SessionReport). session_cmp r.session c.args.session.now) (always_returns_same _ _ _ (λ a r q k. search rules)))
