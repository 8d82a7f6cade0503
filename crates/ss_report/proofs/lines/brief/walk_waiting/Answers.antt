use Rattle.ss_report.specs.lines.Lines.{entry_line}
use Rattle.ss_report.proofs.of_writing.LinesTaken.{one_line}
use Rattle.ss_report.proofs.lines.brief.walk_waiting.Goals as goal

pub returns-in-Some : goal.returns-in-Some
returns-in-Some g c =
    let visited = rw c.line_of_entry.ensures at c.visit.ensures in
    rw c.in-Some.is (one_line (g.V.LineVisitor.takes c.args.visitor.now) _ _ (entry_line c.args.session.now c.args.group c.in-Some.listed) visited)
