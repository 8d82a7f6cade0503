use Rattle.std.proofs.Common.{ap}
use Rattle.ss_report.specs.lines.Between.{group_lines_outside}
use Rattle.ss_report.proofs.of_writing.LinesTaken.{lines_more}
use Rattle.ss_report.proofs.lines.walk.walk_groups_outside.Goals as goal

pub loop-group-preserved : goal.loop-group-preserved
loop-group-preserved g c =
    let of = group_lines_outside c.args.side c.args.counters.now c.args.session.now in
    lines_more (g.V.LineVisitor.takes c.args.visitor.now) of c.args.groups.now c.loop-group.group-index _ _ _ _ _ c.loop-group-test.true c.loop-group.invariant c.walk_group_outside.ensures
    (ap of c.group-item.is)
