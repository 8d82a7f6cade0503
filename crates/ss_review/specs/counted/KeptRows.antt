-- Small reports, counters that somebody kept, and what is missing up to them.
use Rattle.std.specs.Prelude.{◌≡◌, ℕ, List, [], ◌∷◌}
use Rattle.ss_block.specs.declared.block.Group.{Group}
use Rattle.ss_block.specs.declared.session.Session.{Session}
use Rattle.ss_review.specs.declared.counted.counted_session.CountedSession.{CountedSession}
use Rattle.ss_review.specs.declared.counted.counter.Counter.{Counter}
use Rattle.ss_review.specs.declared.counted.counter.Counts.TheVariants as counts
use Rattle.ss_review.specs.declared.counted.missing.MissingRun.{MissingRun}
use Rattle.ss_review.specs.declared.counted.shortfall.GroupTail.{GroupTail}
use Rattle.ss_review.specs.declared.counted.shortfall.Shortfall.{Shortfall}
use Rattle.ss_review.specs.declared.counted.shortfall.LogShortfalls.{LogShortfalls}
use Rattle.ss_review.specs.declared.report.entry.Why.TheVariants as whys
use Rattle.ss_review.specs.declared.report.entry.Entry.TheVariants as entry
use Rattle.ss_review.specs.declared.report.session_report.SessionReport.{SessionReport}
use Rattle.ss_review.specs.declared.report.session_report.SessionState.TheVariants as states
use Rattle.ss_review.specs.report.Rows.{sent_by, group_told}
use Rattle.ss_review.specs.counted.Kept.{log_shortfalls}

-- ---- what the rows are made of

-- the session of the report, and one that stands after it
abbrev pub here : Session
here = sent_by (104 ∷ []) 1

abbrev pub elsewhere : Session
elsewhere = sent_by (105 ∷ []) 1

-- the group of the report, and one that it lacks
abbrev pub reported : Group
reported = record { sg = 0; spri = 0 }

abbrev pub other : Group
other = record { sg = 1; spri = 13 }

abbrev pub counts_blocks : Session → ℕ → Counter
counts_blocks s next = record { session = s; counts = counts.Blocks; next = next }

abbrev pub counts_messages : Session → Group → ℕ → Counter
counts_messages s g next = record { session = s; counts = counts.Messages g; next = next }

-- one session, in which the message 1 is listed and the message 2 lost
abbrev pub reports : List SessionReport
reports =
    record {
      session = here;
      state = states.Joined;
      groups = group_told (entry.Listed 1 0 ∷ entry.Gap 2 whys.Lost ∷ []) ∷ [];
    } ∷ []

-- its verified signature blocks have the GBC 1 and 3
abbrev pub counted : List CountedSession
counted = record { session = here; gbcs = 1 ∷ 3 ∷ [] } ∷ []

abbrev pub up_to : List Counter → LogShortfalls
up_to cs = log_shortfalls cs reports counted

abbrev pub run : ℕ → ℕ → MissingRun
run first last = record { first = first; last = last }

-- the blocks that the log shows to be missing by itself
abbrev pub shown : List MissingRun
shown = run 0 0 ∷ run 2 2 ∷ []

abbrev pub missing_of : Session → List GroupTail → List MissingRun → Shortfall
missing_of s tails blocks = record { session = s; tails = tails; blocks = blocks }

abbrev pub missing_here : List GroupTail → List MissingRun → LogShortfalls
missing_here tails blocks = record { known = missing_of here tails blocks ∷ []; absent = [] }

abbrev pub tail : Group → ℕ → ℕ → GroupTail
tail g first last = record { group = g; first = first; last = last }

-- ---- what is missing up to them

pub record ShortfallsAreThese : Type 0 where
  pub no_counter : up_to [] ≡ missing_here [] shown
  pub end_gone : up_to (counts_blocks here 6 ∷ counts_messages here reported 5 ∷ [])
      ≡ missing_here (tail reported 3 4 ∷ []) (run 0 0 ∷ run 2 2 ∷ run 4 5 ∷ [])
  pub group_gone : up_to (counts_messages here other 4 ∷ []) ≡ missing_here (tail other 1 3 ∷ []) shown
  pub session_gone : up_to (counts_messages elsewhere reported 3 ∷ counts_blocks elsewhere 2 ∷ [])
      ≡ record {
        known = missing_of here [] shown ∷ [];
        absent = missing_of elsewhere (tail reported 1 2 ∷ []) (run 0 1 ∷ []) ∷ [];
      }
  pub session_gone_unused : up_to (counts_blocks elsewhere 0 ∷ counts_messages elsewhere reported 1 ∷ [])
      ≡ record { known = missing_of here [] shown ∷ []; absent = missing_of elsewhere [] [] ∷ [] }
  pub older_than_the_log : up_to (counts_blocks here 3 ∷ counts_messages here reported 2 ∷ []) ≡ missing_here [] shown
  pub as_far_as_the_log : up_to (counts_blocks here 4 ∷ counts_messages here reported 3 ∷ []) ≡ missing_here [] shown
  pub named_twice : up_to (counts_messages here reported 4 ∷ counts_blocks here 5 ∷ counts_messages here reported 6
      ∷ [])
      ≡ missing_here (tail reported 3 5 ∷ []) (run 0 0 ∷ run 2 2 ∷ run 4 4 ∷ [])
  pub in_any_order : up_to (counts_messages here other 2 ∷ counts_blocks elsewhere 1 ∷ counts_messages here reported 4
      ∷ [])
      ≡ record {
        known = missing_of here (tail reported 3 3 ∷ tail other 1 1 ∷ []) shown ∷ [];
        absent = missing_of elsewhere [] (run 0 0 ∷ []) ∷ [];
      }
