use Rattle.ss_report.specs.lines.Lines.{end_lines, ending_lines}
use Rattle.ss_report.proofs.of_writing.LinesTaken.{lines_then}
use Rattle.ss_report.proofs.lines.others.walk_end.Goals as goal

pub returns : goal.returns
returns g c =
    let detail = c.args.detail in
    lines_then (g.V.LineVisitor.takes c.args.visitor.now) _ _ _ (ending_lines detail.listing c.args.ending.now) (end_lines detail.not_empty c.args.count) c.walk_ending.ensures c.walk_count.ensures
