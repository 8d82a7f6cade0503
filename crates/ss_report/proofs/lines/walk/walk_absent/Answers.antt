use Rattle.std.proofs.Common.{ap}
use Rattle.ss_report.specs.lines.Between.{lines_of_absent}
use Rattle.ss_report.proofs.of_writing.LinesTaken.{lines_more}
use Rattle.ss_report.proofs.lines.walk.walk_absent.Goals as goal

pub loop-short-preserved : goal.loop-short-preserved
loop-short-preserved g c =
    lines_more (g.V.LineVisitor.takes c.args.visitor.now) (lines_of_absent c.args.first.now) c.args.absent.now c.loop-short.short-index _ _ _ _ _ c.loop-short-test.true c.loop-short.invariant c.walk_absent_session.ensures
    (ap (lines_of_absent c.args.first.now) c.short-item.is)
