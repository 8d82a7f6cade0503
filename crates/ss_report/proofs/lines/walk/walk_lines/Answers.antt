use Rattle.ss_report.specs.lines.Lines.{other_lines}
use Rattle.ss_report.specs.lines.Between.{sessions_beside}
use Rattle.ss_report.proofs.of_reports.NightLines.{beside_parts}
use Rattle.ss_report.proofs.of_writing.LinesTaken.{lines_then, taken_same}
use Rattle.ss_report.proofs.lines.walk.walk_lines.Goals as goal

pub returns : goal.returns
returns g c =
    let takes = g.V.LineVisitor.takes c.args.visitor.now in
    let report = c.args.report.now in
    let missing = c.args.missing.now in
    let ending = c.args.ending.now in
    let sessions = rw c.as_slice.ensures at c.walk_reported.ensures in
    taken_same takes _ _ _ _ (lines_then takes _ _ _ (sessions_beside c.args.detail missing report.sessions) (other_lines c.args.detail report ending) sessions c.walk_others.ensures) (beside_parts c.args.detail report missing ending)
