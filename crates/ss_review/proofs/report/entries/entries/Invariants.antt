-- The entries so far, and those of the rest behind the last number, are all.
use Rattle.std.proofs.Common.{◌≡◌, ◌++◌, drop, map}
use Rattle.ss_review.specs.report.Grouped.{with_entry, entries_after}
use Rattle.ss_review.proofs.report.entries.entries.Given as goal

abbrev pub invariant-loop-number : goal.invariant-loop-number
invariant-loop-number l = l.entries.items ++ entries_after l.last (map with_entry (drop l.number-index l.numbers)) ≡ entries_after 0 (map with_entry l.numbers)
