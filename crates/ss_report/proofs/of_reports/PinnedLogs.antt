-- What holds of the reports of all logs holds of those by payloads that are known beforehand, because each is the report
-- of a log.
use Rattle.std.proofs.Common.{ℕ, List, Option, Some, None, refl, subst}
use Rattle.ss_review.specs.declared.counted.counted_session.CountedSession.{CountedSession}
use Rattle.ss_review.specs.declared.report.session_report.SessionReport.{SessionReport}
use Rattle.ss_review.specs.keep.Notes.{notes}
use Rattle.ss_review.specs.keep.Contents.{blocks, contents}
use Rattle.ss_review.specs.sessions.Verified.{Answers}
use Rattle.ss_review.specs.report.Report.{report}
use Rattle.ss_review.specs.counted.Counted.{counted_sessions}
use Rattle.ss_review.specs.pinned.Pinned.{counted_by, report_by}
use Rattle.ss_review.specs.pinned.Stands.{PinnedReportsAreOfLogs, StandsFor}

-- the log that stands for this one
pub stands_for : PinnedReportsAreOfLogs → (known : Option (List (List ℕ))) (says : Answers) (log : List (List ℕ))
    → (other : List (List ℕ)) × StandsFor known says log other
stands_for law None says log = (log, refl)
stands_for law (Some ps) says log = law says ps log

-- what holds of the sessions of each log, and of the GBC of their blocks
pub of_sessions_by : PinnedReportsAreOfLogs → (P : List SessionReport → List CountedSession → Type 0) (says : Answers)
    → ((log : List (List ℕ)) → P (report says log).sessions (counted_sessions says (blocks (notes log))))
    → (known : Option (List (List ℕ))) (log : List (List ℕ))
    → P (report_by known says (contents (notes log))).sessions (counted_by known says (blocks (notes log)))
of_sessions_by law P says of_logs None log = of_logs log
of_sessions_by law P says of_logs (Some ps) log =
    let stands = law says ps log in
    let same = stands.1 in
    subst (λ (p : List SessionReport × List CountedSession). P p.0 p.1)
    (λ i. (same.sessions i, counted_sessions says (same.blocks_are i))) (of_logs stands.0)
