use Rattle.std.proofs.Common.{◌≡◌, take, fold, filter_map}
use Rattle.ss_between.specs.Between.{entry_left}
use Rattle.ss_report.specs.lines.Order.{of_none, with_entry, IsWithin}
use Rattle.ss_report.proofs.lines.order.Order.of_left.Given as goal

abbrev pub invariant-loop-entry : goal.invariant-loop-entry
invariant-loop-entry l = (l.so_far ≡ fold with_entry of_none (filter_map (entry_left l.number) (take l.entry-index l.entries))) × IsWithin l.entry-index l.so_far
