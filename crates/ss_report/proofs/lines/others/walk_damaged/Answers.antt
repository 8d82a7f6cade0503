use Rattle.std.proofs.Common.{refl}
use Rattle.ss_report.specs.lines.Lines.{damage_line}
use Rattle.ss_report.proofs.of_writing.LinesTaken.{line_more}
use Rattle.ss_report.proofs.lines.others.walk_damaged.Goals as goal

pub loop-stretch-preserved : goal.loop-stretch-preserved
loop-stretch-preserved g c =
    line_more (g.V.LineVisitor.takes c.args.visitor.now) damage_line c.args.damaged.now c.loop-stretch.stretch-index _ _ _ _ _ c.loop-stretch-test.true c.loop-stretch.invariant c.visit.ensures refl
