use Rattle.ss_report.specs.lines.Lines.{TornLine}
use Rattle.ss_report.proofs.of_writing.LinesTaken.{one_line}
use Rattle.ss_report.proofs.lines.others.walk_tail.Goals as goal

pub returns-in-Torn : goal.returns-in-Torn
returns-in-Torn g c =
    rw c.in-Torn.is (one_line (g.V.LineVisitor.takes c.args.visitor.now) _ _ (TornLine c.in-Torn.pos) c.visit.ensures)
