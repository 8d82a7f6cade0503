-- Logs that are clean nights up to their own counters, and a small one that meets the premises.
use Rattle.std.specs.Prelude.{◌≡◌, ℕ, ◌<◌, ◌≤◌, true, Option, Some, List, [], ◌∷◌}
use Rattle.ss_review.specs.declared.counted.counter.Counter.{Counter}
use Rattle.ss_review.specs.keep.Notes.{notes}
use Rattle.ss_review.specs.keep.Contents.{blocks}
use Rattle.ss_review.specs.sessions.Verified.{Answers}
use Rattle.ss_review.specs.announced.Announced.{Key}
use Rattle.ss_review.specs.announced.Announcing.{IsAnnounced}
use Rattle.ss_review.specs.report.Meaning.{IsTold}
use Rattle.ss_review.specs.report.Report.{report}
use Rattle.ss_review.specs.report.Verdict.{is_clean}
use Rattle.ss_review.specs.counted.Kept.{kept_number}
use Rattle.ss_review.specs.counted.KeptLaws.{NothingIsMissing, counters_given, log_counters}
use Rattle.ss_review.specs.pinned.Pinned.{counted_by}
use Rattle.ss_review.specs.pinned.Stands.{shortfalls_by}
use Rattle.ss_review.specs.deliveries.Delivered.{own_number}
use Rattle.ss_review.specs.deliveries.SmallChains.{accepting, whole}
use Rattle.ss_between.specs.Between.{number_at}
use Rattle.ss_laws.specs.nights.Night.{log_blocks, log_report, night_by, night_report}
use Rattle.ss_laws.specs.nights.CleanLaws.{IsCleanNight, AreCleanNights}

-- the counters of a log, by the payloads that are known beforehand, or without any
abbrev pub own_counters : Option (List (List ℕ)) → Answers → List (List ℕ) → List Counter
own_counters known says log =
    counters_given (log_report known says log).sessions (counted_by known says (blocks (notes log)))

-- Each announced number of a log is at least 1, and below the counter that the log itself gives.
abbrev pub AnnouncedAreBelowOwnCounters : Type 0
AnnouncedAreBelowOwnCounters =
    (known : Option (List (List ℕ))) (says : Answers) (log : List (List ℕ)) (k : Key)
    → IsAnnounced says (log_blocks known says log) k
    → (1 ≤ k.number) × (k.number < kept_number (own_counters known says log) k.session k.group)

-- A clean log, of which nothing is missing up to the counters that it gives, is a clean night that begins with no
-- counter and ends at these.
abbrev pub CleanLogsAreCleanNights : Type 0
CleanLogsAreCleanNights =
    (known : Option (List (List ℕ))) (says : Answers) (log : List (List ℕ))
    → is_clean (log_report known says log) ≡ true
    → NothingIsMissing (shortfalls_by known says log (own_counters known says log))
    → IsCleanNight (log_report known says log) (night_by known says log [] (Some (own_counters known says log)))

-- A night in which nothing was sent is clean: its log is empty, and it ends at the counters at which it begins.
abbrev pub IdleNightsAreClean : Type 0
IdleNightsAreClean =
    (says : Answers) (cs : List Counter) → IsCleanNight (report says []) (night_report says [] cs (Some cs))

-- the counters that the small log gives
abbrev pub small_end : List Counter
small_end = log_counters accepting whole.log

-- its only number
abbrev pub small_number : Key
small_number = own_number whole 0 1

-- The small log of one message is a clean night that begins with no counter, and its number is one of the night. In the
-- night after it nothing was sent.
pub record SmallNightIsClean : Type 0 where
  pub clean : IsCleanNight (report accepting whole.log) (night_report accepting whole.log [] (Some small_end))
  pub follow : AreCleanNights accepting []
      (record { log = whole.log; end = small_end } ∷ record { log = []; end = small_end } ∷ [])
  pub from : number_at [] small_number.session small_number.group ≤ small_number.number
  pub below : small_number.number < kept_number small_end small_number.session small_number.group
  pub told : IsTold (report accepting whole.log) small_number
