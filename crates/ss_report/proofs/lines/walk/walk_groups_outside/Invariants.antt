use Rattle.std.proofs.Common.{take, flat_map}
use Rattle.ss_report.specs.lines.Taken.{TakesAll}
use Rattle.ss_report.specs.lines.Between.{group_lines_outside}
use Rattle.ss_report.proofs.lines.walk.walk_groups_outside.Given as goal

abbrev pub invariant-loop-group : goal.invariant-loop-group
invariant-loop-group g l = TakesAll (g.V.LineVisitor.takes l.visitor) l.initial.into l.into (flat_map (group_lines_outside l.side l.counters l.session) (take l.group-index l.groups))
