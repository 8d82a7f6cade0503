use Rattle.std.proofs.Common.{◌++◌}
use Rattle.ss_report.specs.lines.Lines.{end_lines, ending_lines, single_lines, other_lines}
use Rattle.ss_report.proofs.of_writing.LinesTaken.{lines_then}
use Rattle.ss_report.proofs.lines.others.walk_others.Goals as goal

pub returns : goal.returns
unfolding other_lines
returns g c =
    let report = c.args.report.now in
    let detail = c.args.detail in
    lines_then (g.V.LineVisitor.takes c.args.visitor.now) _ _ _ (single_lines detail.listing report) (ending_lines detail.listing c.args.ending.now ++ end_lines detail.not_empty report.count) c.walk_singles.ensures c.walk_end.ensures
