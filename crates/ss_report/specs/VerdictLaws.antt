-- What a verdict means for the report itself.
use Rattle.std.specs.Prelude.{◌≡◌, ◌&&◌, Bool, List, ℕ, Option, if◌then◌else◌}
use Rattle.std.specs.List.{list_all}
use Rattle.ss_review.specs.declared.counted.counter.Counter.{Counter}
use Rattle.ss_review.specs.declared.counted.shortfall.LogShortfalls.{LogShortfalls}
use Rattle.ss_review.specs.declared.counted.shortfall.Shortfall.{Shortfall}
use Rattle.ss_review.specs.declared.report.report.Report.{Report}
use Rattle.ss_review.specs.keep.Contents.{contents}
use Rattle.ss_review.specs.keep.Notes.{notes}
use Rattle.ss_review.specs.pinned.Pinned.{report_by}
use Rattle.ss_review.specs.pinned.Stands.{shortfalls_by}
use Rattle.ss_review.specs.report.Verdict.{is_clean, is_none}
use Rattle.ss_review.specs.sessions.Verified.{Answers}
use Rattle.ss_report.specs.declared.log.ending.Ending.{Ending}
use Rattle.ss_report.specs.Verdict.{end_verdict, report_verdict}
use Rattle.ss_report.specs.lines.Between.{whole_verdict_by}
use Rattle.ss_report.specs.declared.verdict.verdict.Verdict.{Verdict}
use Rattle.ss_report.specs.declared.verdict.verdict.Verdict.TheVariants as verdicts

-- no signature block and no message is missing of the session
abbrev pub is_complete : Shortfall → Bool
is_complete f = is_none f.tails && is_none f.blocks

-- nothing is missing of any session, and none is absent
abbrev pub is_nothing_short : LogShortfalls → Bool
is_nothing_short short = list_all is_complete short.known && is_none short.absent

-- clean where this is so, at a clean end
abbrev pub verdict_where : Bool → Ending → Verdict
verdict_where clean ending = if clean then end_verdict ending else verdicts.Findings

-- A verdict is clean exactly where the report is and the log has a clean end. If a review reports what is missing, its
-- verdict is clean exactly where nothing is missing either, by the payloads that are known beforehand, or without any.
pub record VerdictsAreOfReports : Type 0 where
  pub plain : (r : Report) (ending : Ending) → report_verdict r ending ≡ verdict_where (is_clean r) ending
  pub whole :
      (known : Option (List (List ℕ))) (says : Answers) (counters : List Counter) (log : List (List ℕ)) (ending : Ending)
      → whole_verdict_by known says counters log ending
      ≡ verdict_where
      (is_clean (report_by known says (contents (notes log)))
      && is_nothing_short (shortfalls_by known says log counters)) ending
