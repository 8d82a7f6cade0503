use Rattle.std.proofs.Common.{take, map, filter_map}
use Rattle.ss_report.specs.lines.Between.{tail_from}
use Rattle.ss_report.specs.lines.Whole.{tail_line}
use Rattle.ss_report.specs.lines.Taken.{TakesAll}
use Rattle.ss_report.proofs.lines.left.walk_tails_left.Given as goal

abbrev pub invariant-loop-tail : goal.invariant-loop-tail
invariant-loop-tail g l = TakesAll (g.V.LineVisitor.takes l.visitor) l.initial.into l.into (map (tail_line l.session) (filter_map (tail_from l.first l.session) (take l.tail-index l.tails)))
