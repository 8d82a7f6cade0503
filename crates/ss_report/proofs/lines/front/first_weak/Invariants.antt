-- None of the first blocks is such a one.
use Rattle.std.proofs.Common.{◌≡◌, None, take}
use Rattle.std.specs.Prelude.{find}
use Rattle.std.specs.List.Sorted.{IsStrictlySortedBy}
use Rattle.std.specs.Ordering.{nat_cmp}
use Rattle.ss_report.specs.lines.Front.{is_weak}
use Rattle.ss_report.proofs.lines.front.first_weak.Given as goal

abbrev pub invariant-loop-block : goal.invariant-loop-block
invariant-loop-block l = IsStrictlySortedBy nat_cmp l.refused → find (is_weak l.refused) (take l.block-index l.blocks) ≡ None
