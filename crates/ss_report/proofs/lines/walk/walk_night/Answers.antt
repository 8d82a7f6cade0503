use Rattle.std.proofs.Common.{◌++◌}
use Rattle.ss_report.specs.declared.lines.outside.Side.TheVariants as sides
use Rattle.ss_report.specs.lines.Lines.{session_lines}
use Rattle.ss_report.specs.lines.Whole.{shortfall_lines}
use Rattle.ss_report.specs.lines.Between.{lines_outside, session_from, shortfall_from}
use Rattle.ss_report.proofs.of_reports.NightLines.{night_lines_from}
use Rattle.ss_report.proofs.of_writing.LinesTaken.{lines_then, taken_same}
use Rattle.ss_report.proofs.lines.walk.walk_night.Goals as goal

pub returns : goal.returns
returns g c =
    let takes = g.V.LineVisitor.takes c.args.visitor.now in
    let report = c.args.report.now in
    let m = c.args.missing.now in
    let own = session_lines c.args.detail (session_from m.first report) in
    let before = lines_outside sides.Early m.first report in
    let after = lines_outside sides.Beyond m.second report in
    let two = lines_then takes _ _ _ own before c.walk_session_left.ensures c.walk_side.ensures in
    let three = lines_then takes _ _ _ (own ++ before) after two c.walk_side-2.ensures in
    let all = lines_then takes _ _ _ ((own ++ before) ++ after) (shortfall_lines (shortfall_from m.first c.args.short.now)) three c.walk_shortfall_left.ensures in
    taken_same takes _ _ _ _ all (night_lines_from c.args.detail m.first m.second report c.args.short.now)
