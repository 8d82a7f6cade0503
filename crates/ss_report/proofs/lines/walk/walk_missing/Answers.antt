use Rattle.std.proofs.Common.{flat_map}
use Rattle.std.specs.List.{zip}
use Rattle.ss_report.specs.lines.Whole.{absent_lines}
use Rattle.ss_report.specs.lines.Between.{absent_from, lines_of_night}
use Rattle.ss_report.proofs.of_reports.NightLines.{absent_are}
use Rattle.ss_report.proofs.of_writing.LinesTaken.{lines_then, taken_same}
use Rattle.ss_report.proofs.lines.walk.walk_missing.Goals as goal

pub returns : goal.returns
returns g c =
    let takes = g.V.LineVisitor.takes c.args.visitor.now in
    let m = c.args.missing.now in
    let sessions = rw c.as_slice-known.ensures at c.walk_nights.ensures in
    let others = taken_same takes _ _ _ _ (rw c.as_slice.ensures at c.walk_absent.ensures) (absent_are m.first m.short.absent) in
    lines_then takes _ _ _ (flat_map (lines_of_night c.args.detail m.first m.second) (zip c.args.sessions.now m.short.known)) (flat_map absent_lines (absent_from m.first m.short.absent)) sessions others
