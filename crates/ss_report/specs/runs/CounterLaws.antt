-- What the plain text of a log's counters is.
use Rattle.std.specs.Prelude.{◌≡◌, ℕ, List, [], ◌∷◌, ◌++◌, length, codes, decimal, Option}
use Rattle.ss_octets.specs.Ascii.{lf}
use Rattle.ss_review.specs.declared.counted.counter.Counter.{Counter}
use Rattle.ss_review.specs.counted.CounterText.{lines_of_counters}
use Rattle.ss_review.specs.counted.KeptLaws.{counters_given}
use Rattle.ss_review.specs.keep.Contents.{blocks, contents}
use Rattle.ss_review.specs.keep.Notes.{notes}
use Rattle.ss_review.specs.pinned.Pinned.{counted_by, report_by}
use Rattle.ss_review.specs.sessions.Verified.{Answers}
use Rattle.ss_report.specs.declared.log.ending.Ending.{Ending}
use Rattle.ss_report.specs.runs.Jobs.{counting}
use Rattle.ss_report.specs.declared.notation.Notation.TheVariants.{Plain}

-- the lines of counters, and how many they are
abbrev pub lines_and_end : List Counter → List ℕ
lines_and_end counters = lines_of_counters counters ++ (codes "end " ++ decimal (length counters) ++ lf ∷ [])

-- in plain notation, a run writes the counters of a log as the lines of the counters that the log itself gives
-- (`log_counters` of `ss_review`), or those that it gives by the payloads that are known beforehand, and how many they
-- are
abbrev pub CountersAreTheLogs : Type 0
CountersAreTheLogs =
    (known : Option (List (List ℕ))) (says : Answers) (log : List (List ℕ)) (ending : Ending)
    → (counting Plain known says).output log ending
    ≡ lines_and_end
    (counters_given (report_by known says (contents (notes log))).sessions (counted_by known says (blocks (notes log))))
