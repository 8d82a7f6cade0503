use Rattle.std.proofs.Common.{List, ap}
use Rattle.ss_review.specs.declared.report.group_report.GroupReport.{GroupReport}
use Rattle.ss_report.specs.lines.Lines.{ReportLine, group_lines}
use Rattle.ss_report.specs.lines.Between.{group_from}
use Rattle.ss_report.proofs.of_writing.LinesTaken.{lines_more}
use Rattle.ss_report.proofs.lines.left.walk_groups_left.Goals as goal

pub loop-group-preserved : goal.loop-group-preserved
loop-group-preserved g c =
    let session = c.args.session.now in
    let of : GroupReport → List ReportLine = λ r. group_lines c.args.detail session (group_from c.args.first.now session r) in
    lines_more (g.V.LineVisitor.takes c.args.visitor.now) of c.args.groups.now c.loop-group.group-index _ _ _ _ _ c.loop-group-test.true c.loop-group.invariant c.walk_group_left.ensures
    (ap of c.group-item.is)
