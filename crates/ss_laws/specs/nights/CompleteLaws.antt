-- What holds of complete nights, alone and one after another: nothing of them is missing. Whatever else their logs hold
-- doesn't matter.
use Rattle.std.specs.Prelude.{◌≡◌, ℕ, ◌<◌, ◌≤◌, Bool, true, Option, Some, List, [], ◌∷◌, slice_get, All}
use Rattle.std.specs.List.{list_all}
use Rattle.ss_block.specs.declared.hash.Hash.{Hash}
use Rattle.ss_block.specs.declared.session.Session.{Session}
use Rattle.ss_review.specs.declared.counted.counter.Counter.{Counter}
use Rattle.ss_review.specs.declared.report.report.Report.{Report}
use Rattle.ss_review.specs.declared.report.session_report.SessionReport.{SessionReport}
use Rattle.ss_review.specs.sessions.Verified.{Answers}
use Rattle.ss_review.specs.announced.Announced.{Key}
use Rattle.ss_review.specs.announced.Announcing.{Announces, IsAnnounced}
use Rattle.ss_review.specs.report.Meaning.{IsListed}
use Rattle.ss_review.specs.report.Verdict.{is_listed}
use Rattle.ss_review.specs.counted.CountedLaws.{IsCounted}
use Rattle.ss_review.specs.counted.Kept.{kept_number, kept_gbc}
use Rattle.ss_review.specs.counted.KeptLaws.{NothingIsMissing}
use Rattle.ss_between.specs.Between.{number_at, gbc_at}
use Rattle.ss_laws.specs.nights.Night.{NightReport, end_counters, log_blocks, log_report, night_by, shortfalls_left}
use Rattle.ss_laws.specs.nights.NightLaws.{IsPastTheEnd}
use Rattle.ss_laws.specs.nights.CleanLaws.{IsCleanNight, Night, DontFall, last_end}

-- ---- one night

-- the session has no gap and no hole
abbrev pub lists_each : SessionReport → Bool
lists_each s = list_all (λ g. list_all is_listed g.entries) s.groups

-- Nothing of the night is missing, and no number is announced outside of it. Sessions may not be joined, messages
-- unlisted, blocks refused or spoilt.
pub record IsCompleteNight (n : NightReport) : Type 0 where
  -- no gap and no hole is left
  pub listed : list_all (λ b. lists_each b.report) n.sessions ≡ true
  -- no tail and no run is left, and no session that the log has no block of
  pub nothing_missing : NothingIsMissing (shortfalls_left n)
  pub no_early : All (λ b. b.early ≡ []) n.sessions
  pub no_beyond : All (λ b. b.beyond ≡ []) n.sessions

-- a clean night is complete
abbrev pub CleanNightsAreComplete : Type 0
CleanNightsAreComplete = (r : Report) (n : NightReport) → IsCleanNight r n → IsCompleteNight n

-- The log lists each number of the night, and announces no other. It has a verified signature block with each GBC of
-- the night.
pub record HasAllOfTheNight (known : Option (List (List ℕ))) (says : Answers) (log : List (List ℕ))
    (first : List Counter) (second : Option (List Counter)) : Type 0 where
  pub numbers : (k : Key) → number_at first k.session k.group ≤ k.number
      → k.number < kept_number (end_counters second) k.session k.group
      → (place : ℕ) × IsListed (log_report known says log) k place
  pub none_before : (k : Key) → IsAnnounced says (log_blocks known says log) k
      → number_at first k.session k.group ≤ k.number
  pub none_after : (k : Key) → IsAnnounced says (log_blocks known says log) k → ¬ IsPastTheEnd second k
  pub blocks : (s : Session) (gbc : ℕ) → gbc_at first s ≤ gbc → gbc < kept_gbc (end_counters second) s
      → IsCounted says (log_blocks known says log) s gbc

abbrev pub CompleteNightsHaveAll : Type 0
CompleteNightsHaveAll =
    (known : Option (List (List ℕ))) (says : Answers) (log : List (List ℕ)) (first : List Counter)
    (second : Option (List Counter))
    → IsCompleteNight (night_by known says log first second)
    → HasAllOfTheNight known says log first second

-- ---- nights that follow one another

-- each night begins where the one before ended, no counter of a group falls in it, and it is complete
abbrev pub AreCompleteNights : Option (List (List ℕ)) → Answers → List Counter → List Night → Type 0
AreCompleteNights known says first [] = Unit {0}
AreCompleteNights known says first (n ∷ ns) =
    IsCompleteNight (night_by known says n.log first (Some n.end))
    × DontFall first n.end × AreCompleteNights known says n.end ns

-- the log of the night at this index, from 0, lists the number
pub record IsListedIn (known : Option (List (List ℕ))) (says : Answers) (ns : List Night) (k : Key) (index : ℕ) :
    Type 0 where
  pub night : Night
  pub there : slice_get ns index ≡ Some night
  pub place : ℕ
  pub listed : IsListed (log_report known says night.log) k place

-- the log of the night at this index has a verified signature block with the GBC
pub record IsCountedIn (known : Option (List (List ℕ))) (says : Answers) (ns : List Night) (s : Session) (gbc : ℕ)
    (index : ℕ) : Type 0 where
  pub night : Night
  pub there : slice_get ns index ≡ Some night
  pub counted : IsCounted says (log_blocks known says night.log) s gbc

-- Each number from the counters at which the first night begins, and below those at which the last one ends, is listed
-- in exactly one of the logs. Each GBC of that kind has a verified signature block in one.
abbrev pub CompleteNightsAddUp : Type 0
CompleteNightsAddUp =
    (known : Option (List (List ℕ))) (says : Answers) (first : List Counter) (ns : List Night)
    → AreCompleteNights known says first ns
    → ((k : Key) → number_at first k.session k.group ≤ k.number
    → k.number < kept_number (last_end first ns) k.session k.group
    → (index : ℕ) × IsListedIn known says ns k index
    × ((other : ℕ) → IsListedIn known says ns k other → other ≡ index))
    × ((s : Session) (gbc : ℕ) → gbc_at first s ≤ gbc → gbc < kept_gbc (last_end first ns) s
    → (index : ℕ) × IsCountedIn known says ns s gbc index)

-- the log of the night at this index announces the hash for the number
pub record IsAnnouncedWith (known : Option (List (List ℕ))) (says : Answers) (ns : List Night) (k : Key) (h : Hash)
    (index : ℕ) : Type 0 where
  pub night : Night
  pub there : slice_get ns index ≡ Some night
  pub announces : Announces says (log_blocks known says night.log) k h

-- A number that is announced in complete nights is announced in one of their logs alone, and with one hash.
abbrev pub NumbersHaveOneHash : Type 0
NumbersHaveOneHash =
    (known : Option (List (List ℕ))) (says : Answers) (first : List Counter) (ns : List Night)
    → AreCompleteNights known says first ns
    → (k : Key) (h g : Hash) (index other : ℕ)
    → IsAnnouncedWith known says ns k h index → IsAnnouncedWith known says ns k g other
    → (index ≡ other) × (h ≡ g)
