-- The groups so far, and those of the rest, are all.
use Rattle.std.proofs.Common.{◌≡◌, ◌≤◌, ◌-◌, ◌++◌, length, drop}
use Rattle.ss_review.specs.report.Grouped.{GroupsRise, groups_told}
use Rattle.ss_review.proofs.report.grouping.group_reports.Given as goal

abbrev pub invariant-loop-start : goal.invariant-loop-start
invariant-loop-start l = (l.start ≤ length l.numbers) × (GroupsRise l.numbers → l.groups.items ++ groups_told (drop l.start l.numbers) ≡ groups_told l.numbers)

abbrev pub decreases-loop-start : goal.decreases-loop-start
decreases-loop-start l = length l.numbers - l.start
