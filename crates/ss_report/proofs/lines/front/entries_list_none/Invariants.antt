-- None of the first entries is a listed message.
use Rattle.std.proofs.Common.{◌≡◌, [], take, filter_map}
use Rattle.ss_review.specs.report.Extract.{place_listed}
use Rattle.ss_report.proofs.lines.front.entries_list_none.Given as goal

abbrev pub invariant-loop-entry : goal.invariant-loop-entry
invariant-loop-entry l = filter_map place_listed (take l.entry-index l.entries) ≡ []
