use Rattle.std.proofs.Common.{refl}
use Rattle.ss_report.specs.lines.Lines.{spoilt_place_line}
use Rattle.ss_report.proofs.of_writing.LinesTaken.{line_more}
use Rattle.ss_report.proofs.lines.others.walk_spoilts.Goals as goal

pub loop-spoilt-preserved : goal.loop-spoilt-preserved
loop-spoilt-preserved g c =
    line_more (g.V.LineVisitor.takes c.args.visitor.now) spoilt_place_line c.args.spoilts.now c.loop-spoilt.spoilt-index _ _ _ _ _ c.loop-spoilt-test.true c.loop-spoilt.invariant c.visit.ensures refl
