use Rattle.std.proofs.Common.{◌≡◌, ◌++◌, take, filter_map}
use Rattle.ss_review.specs.report.Extract.{place_listed}
use Rattle.ss_report.proofs.runs.places.add_of_entries.Given as goal

abbrev pub invariant-loop-entry : goal.invariant-loop-entry
invariant-loop-entry l = l.places.items ≡ l.initial.places.items ++ filter_map place_listed (take l.entry-index l.entries)
