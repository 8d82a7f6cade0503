-- What comes of the text of `ssign counters` where a review of the same log reads it: `ssign review --counters`.
use Rattle.std.specs.Prelude.{◌≡◌, ℕ, List, [], None}
use Rattle.ss_review.specs.declared.counted.counter.Counter.{Counter}
use Rattle.ss_review.specs.keep.Notes.{notes}
use Rattle.ss_review.specs.keep.Contents.{blocks}
use Rattle.ss_review.specs.sessions.Verified.{Answers}
use Rattle.ss_review.specs.counted.Counted.{counted_sessions}
use Rattle.ss_review.specs.counted.KeptLaws.{AddNothing, log_counters, shortfalls_of}
use Rattle.ss_report.specs.declared.log.ending.Ending.{Ending}
use Rattle.ss_report.specs.runs.Jobs.{counting, reviewing_whole}
use Rattle.ss_report.specs.declared.forms.report_form.ReportForm.{ReportForm}
use Rattle.ss_report.specs.declared.lines.detail.Detail.{Detail}
use Rattle.ss_report.specs.declared.notation.Notation.TheVariants.{Plain}
use Rattle.ss_answers.specs.CounterFile.{HasCounters, HasOnly}

-- A whole review up to these counters writes what one without counters writes, in each form, and has its verdict. It
-- has no tail and no absent session, and the missing blocks are those that the log shows by itself.
pub record ChangeNothing (says : Answers) (log : List (List ℕ)) (counters : List Counter) : Type 0 where
  pub output : (form : ReportForm) (detail : Detail) (ending : Ending)
      → (reviewing_whole form detail counters None says).output log ending
      ≡ (reviewing_whole form detail [] None says).output log ending
  pub verdict : (form : ReportForm) (detail : Detail) (ending : Ending)
      → (reviewing_whole form detail counters None says).verdict log ending
      ≡ (reviewing_whole form detail [] None says).verdict log ending
  pub missing : AddNothing (counted_sessions says (blocks (notes log))) (shortfalls_of says log counters)

-- A text is read as the counters of a log and as no others, and it is whole. Whatever is read of it changes nothing in the log's review.
pub record IsReadBack (says : Answers) (log : List (List ℕ)) (text : List ℕ) : Type 0 where
  pub read : HasOnly text (log_counters says log)
  pub given_back : (counters : List Counter) → HasCounters text counters → ChangeNothing says log counters

-- so is the plain text of a log's counters
abbrev pub CountersAreReadBack : Type 0
CountersAreReadBack =
    (says : Answers) (log : List (List ℕ)) (ending : Ending) → IsReadBack says log ((counting Plain None says).output log ending)
