-- A report by given payloads is one of a log, so what holds of the reports of all logs holds of it.
use Rattle.std.specs.Prelude.{◌≡◌, ℕ, List, Option, Some, None}
use Rattle.ss_review.specs.declared.counted.counter.Counter.{Counter}
use Rattle.ss_review.specs.declared.counted.shortfall.LogShortfalls.{LogShortfalls}
use Rattle.ss_review.specs.counted.Kept.{log_shortfalls}
use Rattle.ss_review.specs.counted.KeptLaws.{shortfalls_of}
use Rattle.ss_review.specs.keep.Contents.{normals, blocks, contents}
use Rattle.ss_review.specs.keep.Notes.{notes}
use Rattle.ss_review.specs.report.Meaning.{IsInOrder}
use Rattle.ss_review.specs.report.Report.{report}
use Rattle.ss_review.specs.sessions.Verified.{Answers}
use Rattle.ss_review.specs.pinned.Pinned.{kept, pinned_counted, pinned_report, counted_by, report_by}

-- what is missing of a log up to these counters
abbrev pub pinned_shortfalls : Answers → List (List ℕ) → List (List ℕ) → List Counter → LogShortfalls
pinned_shortfalls says ps log cs =
    log_shortfalls cs (pinned_report says ps (contents (notes log))).sessions (pinned_counted says ps (blocks (notes log)))

-- the same by the payloads that are given, or without any
abbrev pub shortfalls_by : Option (List (List ℕ)) → Answers → List (List ℕ) → List Counter → LogShortfalls
shortfalls_by known says log cs =
    log_shortfalls cs (report_by known says (contents (notes log))).sessions (counted_by known says (blocks (notes log)))

-- What is reported of the log by given payloads is reported of the other log without any: of sessions, of messages, and
-- of what is missing up to any counters. The other log has the same messages without a block at the same places, and
-- those of the blocks that are kept. In the places of the others spoilt blocks stand.
pub record IsReportedAs (says : Answers) (ps : List (List ℕ)) (log other : List (List ℕ)) : Type 0 where
  pub normals_are : normals (notes other) ≡ normals (notes log)
  pub blocks_are : blocks (notes other) ≡ kept says ps (blocks (notes log))
  pub sessions : (report says other).sessions ≡ (pinned_report says ps (contents (notes log))).sessions
  pub unlisted : (report says other).unlisted ≡ (pinned_report says ps (contents (notes log))).unlisted
  pub count : (report says other).count ≡ (pinned_report says ps (contents (notes log))).count
  pub missing : (cs : List Counter) → shortfalls_of says other cs ≡ pinned_shortfalls says ps log cs

abbrev pub PinnedReportsAreOfLogs : Type 0
PinnedReportsAreOfLogs = (says : Answers) (ps : List (List ℕ)) (log : List (List ℕ))
    → (other : List (List ℕ)) × IsReportedAs says ps log other

-- The other log is one of which the same is reported: such a one where payloads are given, and else the log itself.
abbrev pub StandsFor : Option (List (List ℕ)) → Answers → (log other : List (List ℕ)) → Type 0
StandsFor None says log other = other ≡ log
StandsFor (Some ps) says log other = IsReportedAs says ps log other

-- a report by given payloads is in rising order
abbrev pub PinnedReportsAreInOrder : Type 0
PinnedReportsAreInOrder = (says : Answers) (ps : List (List ℕ)) (log : List (List ℕ))
    → IsInOrder (pinned_report says ps (contents (notes log)))
