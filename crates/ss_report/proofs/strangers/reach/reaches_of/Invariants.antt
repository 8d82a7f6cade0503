-- How far the verified ones of the first blocks reach.
use Rattle.std.proofs.Common.{take}
use Rattle.std.specs.List.Sorted.{IsStrictlySortedBy}
use Rattle.std.specs.Ordering.{nat_cmp}
use Rattle.ss_report.specs.strangers.Reaches.{HasReaches}
use Rattle.ss_report.proofs.strangers.reach.reaches_of.Given as goal

abbrev pub invariant-loop-block : goal.invariant-loop-block
invariant-loop-block l = IsStrictlySortedBy nat_cmp l.refused → HasReaches l.reaches l.refused (take l.block-index l.blocks)
