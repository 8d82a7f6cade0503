use Rattle.ss_between.specs.Between.{run_left}
use Rattle.ss_report.specs.lines.Whole.{missing_line}
use Rattle.ss_report.proofs.of_writing.LinesTaken.{left_more}
use Rattle.ss_report.proofs.lines.left.walk_missing_left.Goals as goal

pub loop-run-preserved : goal.loop-run-preserved
loop-run-preserved g c =
    left_more (g.V.LineVisitor.takes c.args.visitor.now) (missing_line c.args.session.now) (run_left c.args.gbc) c.args.runs.now c.loop-run.run-index _ _ _ _ c.loop-run-test.true c.loop-run.invariant c.walk_run_left.ensures
