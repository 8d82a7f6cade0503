use Rattle.std.proofs.Common.{flat_map}
use Rattle.ss_report.specs.lines.Lines.{SessionLine, group_lines}
use Rattle.ss_report.specs.lines.Between.{group_from}
use Rattle.ss_report.proofs.of_reports.NightLines.{session_lines_from}
use Rattle.ss_report.proofs.of_writing.LinesTaken.{line_then, taken_same}
use Rattle.ss_report.proofs.lines.left.walk_session_left.Goals as goal

pub returns : goal.returns
returns g c =
    let takes = g.V.LineVisitor.takes c.args.visitor.now in
    let report = c.args.report.now in
    let first = c.args.first.now in
    let groups = rw c.as_slice.ensures at c.walk_groups_left.ensures in
    let lines = line_then takes _ _ _ (SessionLine report.session report.state) (flat_map (λ g. group_lines c.args.detail report.session (group_from first report.session g)) report.groups) c.visit.ensures groups in
    taken_same takes _ _ _ _ lines (session_lines_from c.args.detail first report)
