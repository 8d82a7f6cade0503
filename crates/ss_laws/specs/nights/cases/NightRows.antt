-- Small reports, and what a night leaves of them, computed.
use Rattle.std.specs.Prelude.{◌≡◌, ℕ, Option, Some, None, List, [], ◌∷◌}
use Rattle.ss_block.specs.declared.session.Session.{Session}
use Rattle.ss_review.specs.declared.counted.counter.Counter.{Counter}
use Rattle.ss_review.specs.declared.counted.shortfall.Shortfall.{Shortfall}
use Rattle.ss_review.specs.declared.report.entry.Why.TheVariants as whys
use Rattle.ss_review.specs.declared.report.entry.Entry.{Entry}
use Rattle.ss_review.specs.declared.report.entry.Entry.TheVariants as entry
use Rattle.ss_review.specs.declared.report.session_report.SessionReport.{SessionReport}
use Rattle.ss_review.specs.declared.report.session_report.SessionState.TheVariants as states
use Rattle.ss_review.specs.report.Rows.{sent_by, group_told}
use Rattle.ss_review.specs.counted.KeptRows.{here, elsewhere, reported, other, counts_blocks, counts_messages}
use Rattle.ss_review.specs.counted.KeptRows.{missing_of, tail, run}
use Rattle.ss_between.specs.Between.{NumberRun, SessionBetween, session_between, absent_left}

-- ---- what the rows are made of

-- a session that has no first counter
abbrev pub begun : Session
begun = sent_by (106 ∷ []) 1

abbrev pub first_counters : List Counter
first_counters =
    counts_messages here reported 5 ∷ counts_blocks here 3 ∷ counts_messages here other 3
    ∷ counts_messages elsewhere reported 3 ∷ counts_blocks elsewhere 2 ∷ []

abbrev pub second_counters : List Counter
second_counters = counts_blocks here 6 ∷ counts_messages here reported 9 ∷ []

abbrev pub report_here : List Entry → SessionReport
report_here es = record { session = here; state = states.Joined; groups = group_told es ∷ [] }

abbrev pub entries : List Entry
entries =
    entry.Hole 1 1 ∷ entry.Listed 2 0 ∷ entry.Listed 3 1 ∷ entry.Hole 4 5 ∷ entry.Gap 6 whys.Lost ∷ entry.Listed 7 2
    ∷ entry.Hole 8 8 ∷ entry.Listed 9 3 ∷ entry.Listed 10 4 ∷ []

-- of the same without the numbers of holes below 5
abbrev pub entries_from_5 : List Entry
entries_from_5 =
    entry.Listed 2 0 ∷ entry.Listed 3 1 ∷ entry.Hole 5 5 ∷ entry.Gap 6 whys.Lost ∷ entry.Listed 7 2 ∷ entry.Hole 8 8
    ∷ entry.Listed 9 3 ∷ entry.Listed 10 4 ∷ []

abbrev pub missing_here : Shortfall
missing_here = missing_of here (tail other 1 3 ∷ []) (run 0 0 ∷ run 2 4 ∷ [])

abbrev pub numbers : (first last : ℕ) → NumberRun
numbers first last = record { group = reported; first = first; last = last }

abbrev pub night_of : List Counter → Option (List Counter) → SessionBetween
night_of first second = session_between first second (report_here entries, missing_here)

-- ---- what a night leaves

-- Announced numbers stay. Holes, tails and runs are cut at the first counters. Sessions of which nothing is missing
-- stay if they have no first counter.
pub record NightsLeaveThese : Type 0 where
  pub both : night_of first_counters (Some second_counters)
      ≡ record {
        report = report_here entries_from_5;
        early = numbers 2 3 ∷ [];
        beyond = numbers 9 10 ∷ [];
        short = missing_of here (tail other 3 3 ∷ []) (run 3 4 ∷ []);
      }
  pub no_end : night_of first_counters None
      ≡ record {
        report = report_here entries_from_5;
        early = numbers 2 3 ∷ [];
        beyond = [];
        short = missing_of here (tail other 3 3 ∷ []) (run 3 4 ∷ []);
      }
  pub no_counter : night_of [] (Some [])
      ≡ record {
        report = report_here entries;
        early = [];
        beyond = numbers 2 3 ∷ numbers 6 7 ∷ numbers 9 10 ∷ [];
        short = missing_here;
      }
  pub sent_nothing : absent_left first_counters (missing_of elsewhere (tail reported 1 2 ∷ []) (run 0 1 ∷ []) ∷ []) ≡ []
  pub sent_more : absent_left first_counters (missing_of elsewhere (tail reported 1 4 ∷ []) (run 0 2 ∷ []) ∷ [])
      ≡ missing_of elsewhere (tail reported 3 4 ∷ []) (run 2 2 ∷ []) ∷ []
  pub begun_in_the_night : absent_left first_counters (missing_of begun [] [] ∷ []) ≡ missing_of begun [] [] ∷ []
