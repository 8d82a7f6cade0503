-- What a review reports of one night: of a log, between two counters of each group.
use Rattle.std.specs.Prelude.{◌≡◌, ◌≤◌, ℕ, Option, None, List, [], map, Contains, unwrap_or}
use Rattle.std.specs.List.{zip}
use Rattle.ss_review.specs.declared.counted.counter.Counter.{Counter}
use Rattle.ss_review.specs.declared.counted.shortfall.Shortfall.{Shortfall}
use Rattle.ss_review.specs.declared.counted.shortfall.LogShortfalls.{LogShortfalls}
use Rattle.ss_review.specs.declared.report.report.Report.{Report}
use Rattle.ss_review.specs.sessions.Verified.{Answers}
use Rattle.ss_review.specs.announced.Announced.{Key}
use Rattle.ss_review.specs.keep.BlockMessage.{BlockMessage}
use Rattle.ss_review.specs.keep.Contents.{blocks, contents}
use Rattle.ss_review.specs.keep.Notes.{notes}
use Rattle.ss_review.specs.pinned.Pinned.{blocks_by, report_by}
use Rattle.ss_review.specs.pinned.Stands.{shortfalls_by}
use Rattle.ss_between.specs.Between.{SessionBetween, NumberRun, session_between, absent_left}

-- each session of the log, and those that have a second counter and no block in the log
pub record NightReport : Type 0 where
  pub sessions : List SessionBetween
  pub absent : List Shortfall

-- the counters at which the night ends, if there are any
abbrev pub end_counters : Option (List Counter) → List Counter
end_counters second = unwrap_or second []

-- the report of a log by the payloads that are known beforehand, or without any
abbrev pub log_report : Option (List (List ℕ)) → Answers → List (List ℕ) → Report
log_report known says log = report_by known says (contents (notes log))

-- the blocks that such a report rests on
abbrev pub log_blocks : Option (List (List ℕ)) → Answers → List (List ℕ) → List BlockMessage
log_blocks known says log = blocks_by known says (blocks (notes log))

-- what is reported of one night
unfoldable pub night_by :
    Option (List (List ℕ)) → Answers → List (List ℕ) → List Counter → Option (List Counter) → NightReport
night_by known says log first second =
    let all = shortfalls_by known says log (end_counters second) in
    record {
      sessions = map (session_between first second)
          (zip (log_report known says log).sessions all.known);
      absent = absent_left first all.absent;
    }

abbrev pub night_report : Answers → List (List ℕ) → List Counter → Option (List Counter) → NightReport
night_report says log first second = night_by None says log first second

-- a report, of whose sessions only what is left stays
abbrev pub report_left : Report → NightReport → Report
report_left r n = record r { sessions = map (λ b. b.report) n.sessions }

-- what is left of what is missing
abbrev pub shortfalls_left : NightReport → LogShortfalls
shortfalls_left n = record { known = map (λ b. b.short) n.sessions; absent = n.absent }

-- ---- announced outside of the night

-- the number is in a run of the session's early ones
pub record IsEarly (n : NightReport) (k : Key) : Type 0 where
  pub session : SessionBetween
  pub session_told : Contains n.sessions session
  pub session_is : session.report.session ≡ k.session
  pub run : NumberRun
  pub run_told : Contains session.early run
  pub group_is : run.group ≡ k.group
  pub from : run.first ≤ k.number
  pub to : k.number ≤ run.last

-- the number is in a run of those of the session that go beyond the night
pub record IsBeyond (n : NightReport) (k : Key) : Type 0 where
  pub session : SessionBetween
  pub session_told : Contains n.sessions session
  pub session_is : session.report.session ≡ k.session
  pub run : NumberRun
  pub run_told : Contains session.beyond run
  pub group_is : run.group ≡ k.group
  pub from : run.first ≤ k.number
  pub to : k.number ≤ run.last
