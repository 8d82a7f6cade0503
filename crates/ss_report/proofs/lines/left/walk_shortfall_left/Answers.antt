use Rattle.std.proofs.Common.{map, filter_map}
use Rattle.ss_between.specs.Between.{run_left}
use Rattle.ss_report.specs.lines.Whole.{tail_line, missing_line}
use Rattle.ss_report.specs.lines.Between.{gbc_from, tail_from}
use Rattle.ss_report.proofs.of_reports.NightLines.{shortfall_lines_from}
use Rattle.ss_report.proofs.of_writing.LinesTaken.{lines_then, taken_same}
use Rattle.ss_report.proofs.lines.left.walk_shortfall_left.Goals as goal

pub returns : goal.returns
returns g c =
    let takes = g.V.LineVisitor.takes c.args.visitor.now in
    let short = c.args.short.now in
    let first = c.args.first.now in
    let tails = rw c.as_slice.ensures at c.walk_tails_left.ensures in
    let missing = rw (c.as_slice-2.ensures, c.gbc_from-gbc.ensures) at c.walk_missing_left.ensures in
    let lines = lines_then takes _ _ _ (map (tail_line short.session) (filter_map (tail_from first short.session) short.tails)) (map (missing_line short.session) (filter_map (run_left (gbc_from first short.session)) short.blocks)) tails missing in
    taken_same takes _ _ _ _ lines (shortfall_lines_from first short)
