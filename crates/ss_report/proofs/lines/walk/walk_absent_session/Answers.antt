use Rattle.ss_report.specs.lines.Lines.{AbsentLine}
use Rattle.ss_report.specs.lines.Whole.{shortfall_lines}
use Rattle.ss_report.specs.lines.Between.{shortfall_from}
use Rattle.ss_report.proofs.of_reports.NightLines.{not_idle_lines}
use Rattle.ss_report.proofs.of_writing.LinesTaken.{line_then, taken_same}
use Rattle.ss_report.proofs.lines.walk.walk_absent_session.Goals as goal

pub returns : goal.returns
returns g c =
    let takes = g.V.LineVisitor.takes c.args.visitor.now in
    let short = c.args.short.now in
    let first = c.args.first.now in
    let lines = line_then takes _ _ _ (AbsentLine short.session) (shortfall_lines (shortfall_from first short)) c.visit.ensures c.walk_shortfall_left.ensures in
    taken_same takes _ _ _ _ lines (not_idle_lines first short (rw c.is_idle_from.ensures at c.if-is_idle_from.false))
