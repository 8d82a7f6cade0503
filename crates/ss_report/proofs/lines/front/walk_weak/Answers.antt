use Rattle.ss_report.specs.lines.Lines.{Sha1Line}
use Rattle.ss_report.proofs.of_writing.LinesTaken.{one_line}
use Rattle.ss_report.proofs.lines.front.walk_weak.Goals as goal

pub returns-in-Some : goal.returns-in-Some
returns-in-Some g c = rw c.in-Some.is (one_line (g.V.LineVisitor.takes c.args.visitor.now) _ _ (Sha1Line c.in-Some.place) c.visit.ensures)
