use Rattle.std.proofs.Common.{sym}
use Rattle.ss_between.specs.Between.{run_left}
use Rattle.ss_report.proofs.of_reports.IdleSessions.{none_more, some_left}
use Rattle.ss_report.proofs.lines.idle.has_no_run_left.Goals as goal

pub returns-then-is_some : goal.returns-then-is_some
returns-then-is_some c =
    sym (some_left (run_left c.args.gbc) c.args.runs.now c.loop-run.run-index _ c.loop-run-test.true (rw (c.is_some.ensures, c.run_left.ensures) at c.if-is_some.true))

pub loop-run-preserved : goal.loop-run-preserved
loop-run-preserved c =
    none_more (run_left c.args.gbc) c.args.runs.now c.loop-run.run-index _ c.loop-run-test.true c.loop-run.invariant (rw (c.is_some.ensures, c.run_left.ensures) at c.if-is_some.false)
