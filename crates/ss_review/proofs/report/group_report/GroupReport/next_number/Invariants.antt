-- The number behind the entries so far and those of the rest.
use Rattle.std.proofs.Common.{◌≡◌, ◌^◌, ◌<◌, drop}
use Rattle.ss_review.specs.counted.Counted.{next_number}
use Rattle.ss_review.proofs.of_reports.NextNumbers.{behind}
use Rattle.ss_review.proofs.report.group_report.GroupReport.next_number.Given as goal

abbrev pub invariant-loop-entry : goal.invariant-loop-entry
invariant-loop-entry l = next_number l.self < 2 ^ 64 → behind l.next (drop l.entry-index l.entry-items) ≡ next_number l.self
