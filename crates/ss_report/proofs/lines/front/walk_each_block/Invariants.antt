use Rattle.std.proofs.Common.{take, map}
use Rattle.std.specs.List.Sorted.{IsStrictlySortedBy}
use Rattle.std.specs.Ordering.{nat_cmp}
use Rattle.ss_report.specs.lines.Front.{block_line}
use Rattle.ss_report.specs.lines.Taken.{TakesAll}
use Rattle.ss_report.proofs.lines.front.walk_each_block.Given as goal

abbrev pub invariant-loop-block : goal.invariant-loop-block
invariant-loop-block g l = IsStrictlySortedBy nat_cmp l.refused → TakesAll (g.V.LineVisitor.takes l.visitor) l.initial.into l.into (map (block_line l.refused) (take l.block-index l.blocks))
