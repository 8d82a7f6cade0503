use Rattle.std.proofs.Common.{take, flat_map}
use Rattle.ss_report.specs.lines.Taken.{TakesAll}
use Rattle.ss_report.specs.lines.Lines.{group_lines}
use Rattle.ss_report.specs.lines.Between.{group_from}
use Rattle.ss_report.proofs.lines.left.walk_groups_left.Given as goal

abbrev pub invariant-loop-group : goal.invariant-loop-group
invariant-loop-group g l = TakesAll (g.V.LineVisitor.takes l.visitor) l.initial.into l.into (flat_map (λ r. group_lines l.detail l.session (group_from l.first l.session r)) (take l.group-index l.groups))
