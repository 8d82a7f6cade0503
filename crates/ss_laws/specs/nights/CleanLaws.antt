-- Clean nights, alone and one after another.
use Rattle.std.specs.Prelude.{◌≡◌, ℕ, ◌≤◌, true, Some, List, [], ◌∷◌, All}
use Rattle.ss_block.specs.declared.block.Group.{Group}
use Rattle.ss_block.specs.declared.session.Session.{Session}
use Rattle.ss_review.specs.declared.counted.counter.Counter.{Counter}
use Rattle.ss_review.specs.declared.report.report.Report.{Report}
use Rattle.ss_review.specs.sessions.Verified.{Answers}
use Rattle.ss_review.specs.report.Report.{report}
use Rattle.ss_review.specs.report.Verdict.{is_clean}
use Rattle.ss_review.specs.counted.Kept.{kept_number}
use Rattle.ss_review.specs.counted.KeptLaws.{NothingIsMissing}
use Rattle.ss_laws.specs.nights.Night.{NightReport, night_report, report_left, shortfalls_left}

-- ---- one night

pub record IsCleanNight (r : Report) (n : NightReport) : Type 0 where
  -- each session is joined, no gap and no hole is left, and nothing is unlisted, refused or spoilt
  pub clean : is_clean (report_left r n) ≡ true
  -- no tail and no run is left, and no session that the log has no block of
  pub nothing_missing : NothingIsMissing (shortfalls_left n)
  pub no_early : All (λ b. b.early ≡ []) n.sessions
  pub no_beyond : All (λ b. b.beyond ≡ []) n.sessions

-- ---- nights that follow one another

-- the log of a night, and the counters at which it ends
pub record Night : Type 0 where
  pub log : List (List ℕ)
  pub end : List Counter

-- no counter of a group is smaller at the end
abbrev pub DontFall : (first end : List Counter) → Type 0
DontFall first end = (s : Session) (g : Group) → kept_number first s g ≤ kept_number end s g

-- each night begins where the one before ended, no counter of a group falls in it, and it is clean
abbrev pub AreCleanNights : Answers → List Counter → List Night → Type 0
AreCleanNights says first [] = Unit {0}
AreCleanNights says first (n ∷ ns) =
    IsCleanNight (report says n.log) (night_report says n.log first (Some n.end))
    × DontFall first n.end × AreCleanNights says n.end ns

-- the counters at which the last night ends
abbrev pub last_end : List Counter → List Night → List Counter
last_end first [] = first
last_end first (n ∷ ns) = last_end n.end ns
