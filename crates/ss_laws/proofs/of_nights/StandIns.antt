-- A log that stands for another one with payloads that are known beforehand: the same is reported of both.
use Rattle.std.proofs.Common.{◌≡◌, inl, inr, ℕ, List, map, refl, subst}
use Rattle.std.specs.Prelude.{Option, Some, None, Contains}
use Rattle.std.specs.List.{zip}
use Rattle.ss_block.specs.declared.block.Group.{Group}
use Rattle.ss_block.specs.declared.session.Session.{Session}
use Rattle.ss_review.specs.declared.counted.counter.Counter.{Counter}
use Rattle.ss_review.specs.declared.report.entry.Entry.{Entry}
use Rattle.ss_review.specs.declared.report.entry.Entry.TheVariants as entry
use Rattle.ss_review.specs.declared.report.report.Report.{Report}
use Rattle.ss_review.specs.declared.report.session_report.SessionReport.{SessionReport}
use Rattle.ss_review.specs.keep.Notes.{notes}
use Rattle.ss_review.specs.keep.Contents.{blocks}
use Rattle.ss_review.specs.sessions.Verified.{Answers}
use Rattle.ss_review.specs.announced.Announced.{Key}
use Rattle.ss_review.specs.pinned.Stands.{PinnedReportsAreOfLogs, shortfalls_by}
use Rattle.ss_review.specs.report.Meaning.{Tells, IsTold}
use Rattle.ss_review.specs.report.Report.{report}
use Rattle.ss_review.specs.counted.KeptLaws.{shortfalls_of, IsInHole}
use Rattle.ss_between.specs.Between.{session_between, absent_left}
use Rattle.ss_laws.specs.nights.Night.{end_counters, log_blocks, log_report, night_by, night_report}

pub record StandsIn (known : Option (List (List ℕ))) (says : Answers) (log other : List (List ℕ)) : Type 0 where
  pub sessions : (report says other).sessions ≡ (log_report known says log).sessions
  pub blocks_are : blocks (notes other) ≡ log_blocks known says log
  pub missing : (cs : List Counter) → shortfalls_of says other cs ≡ shortfalls_by known says log cs

pub stand_in : PinnedReportsAreOfLogs → (known : Option (List (List ℕ))) (says : Answers) (log : List (List ℕ)) → (other : List (List ℕ)) × StandsIn known says log other
stand_in of_logs None says log = (log, record { sessions = refl; blocks_are = refl; missing = λ cs. refl })
stand_in of_logs (Some ps) says log =
    let w = of_logs says ps log in
    (w.0, record { sessions = w.1.sessions; blocks_are = w.1.blocks_are; missing = w.1.missing })

-- the same is left of it between any counters
pub same_night : (known : Option (List (List ℕ))) (says : Answers) (log other : List (List ℕ)) → StandsIn known says log other
    → (first : List Counter) (second : Option (List Counter)) → night_report says other first second ≡ night_by known says log first second
unfolding night_by
same_night known says log other s first second = λ i. record {
  sessions = map (session_between first second) (zip (s.sessions i) (s.missing (end_counters second) i).known);
  absent = absent_left first (s.missing (end_counters second) i).absent;
}

-- an entry of one report is one of another with the same sessions
pub tells_by : (r q : Report) → r.sessions ≡ q.sessions → (s : Session) (g : Group) (e : Entry) → Tells r s g e → Tells q s g e
tells_by r q same s g e t = record {
  session = t.session;
  session_told = subst (λ (ss : List SessionReport). Contains ss t.session) same t.session_told;
  session_is = t.session_is;
  group = t.group;
  group_told = t.group_told;
  group_is = t.group_is;
  entry_told = t.entry_told;
}

pub hole_by : (r q : Report) → r.sessions ≡ q.sessions → (k : Key) → IsInHole r k → IsInHole q k
hole_by r q same k h = record {
  first = h.first;
  last = h.last;
  told = tells_by r q same k.session k.group (entry.Hole h.first h.last) h.told;
  from = h.from;
  to = h.to;
}

pub told_by : (r q : Report) → r.sessions ≡ q.sessions → (k : Key) → IsTold r k → IsTold q k
told_by r q same k (inl l) = inl (l.0, tells_by r q same k.session k.group (entry.Listed k.number l.0) l.1)
told_by r q same k (inr g) = inr (g.0, tells_by r q same k.session k.group (entry.Gap k.number g.0) g.1)
