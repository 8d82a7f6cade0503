use Rattle.std.proofs.Common.{refl}
use Rattle.ss_report.specs.lines.Front.{suspect_line}
use Rattle.ss_report.proofs.of_writing.LinesTaken.{line_more}
use Rattle.ss_report.proofs.lines.front.walk_suspects.Goals as goal

pub loop-suspect-preserved : goal.loop-suspect-preserved
loop-suspect-preserved g c =
    line_more (g.V.LineVisitor.takes c.args.visitor.now) suspect_line c.args.suspects.now c.loop-suspect.suspect-index _ _ _ _ _ c.loop-suspect-test.true c.loop-suspect.invariant c.visit.ensures refl
