-- The reports of the sessions so far.
use Rattle.std.proofs.Common.{◌≡◌, List, take, map}
use Rattle.ss_review.specs.declared.keep.message.NormalMessage.{NormalMessage}
use Rattle.ss_review.specs.announced.Announced.{Row, keys}
use Rattle.ss_review.specs.announced.Numbered.{session_with_joined}
use Rattle.ss_review.specs.report.Grouped.{with_entry, with_entries, session_told}
use Rattle.ss_review.proofs.report.grouping.session_reports.Given as goal

abbrev pub invariant-loop-session : goal.invariant-loop-session
invariant-loop-session l = (ms : List NormalMessage) (rs : List Row) → map with_entry l.numbers ≡ with_entries ms rs (keys rs)
    → l.reports.items ≡ map (λ s. session_told ms rs (session_with_joined s)) (take l.session-index l.joined)
