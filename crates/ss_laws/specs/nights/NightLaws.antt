-- What holds of every log, any first counters and any second ones, and any payloads that are known beforehand.
use Rattle.std.specs.Prelude.{◌≡◌, ◌↔◌, ◌⊎◌, ℕ, ◌+◌, ◌<◌, ◌≤◌, true, Option, Some, None, List, [], map, All, Contains}
use Rattle.std.specs.List.{AllPairs}
use Rattle.ss_block.specs.declared.session.Session.{Session}
use Rattle.ss_review.specs.declared.counted.counter.Counter.{Counter}
use Rattle.ss_review.specs.declared.counted.shortfall.Shortfall.{Shortfall}
use Rattle.ss_review.specs.declared.counted.shortfall.LogShortfalls.{LogShortfalls}
use Rattle.ss_review.specs.declared.report.entry.Why.{Why}
use Rattle.ss_review.specs.declared.report.report.Report.{Report}
use Rattle.ss_review.specs.sessions.Verified.{Answers}
use Rattle.ss_review.specs.announced.Announced.{Key}
use Rattle.ss_review.specs.report.Meaning.{IsListed, IsGap, IsTold}
use Rattle.ss_review.specs.pinned.Stands.{shortfalls_by}
use Rattle.ss_review.specs.counted.CountedLaws.{IsCounted}
use Rattle.ss_review.specs.counted.Kept.{kept_number, kept_gbc}
use Rattle.ss_review.specs.counted.KeptLaws.{IsInHole, IsInTail, IsInRunOf, Fate, HasFate}
use Rattle.ss_between.specs.Between.{number_at, gbc_at, has_counter, shortfall_left, NumberRun}
use Rattle.ss_laws.specs.nights.Night.{NightReport, end_counters, log_blocks, log_report, night_by}
use Rattle.ss_laws.specs.nights.Night.{report_left, shortfalls_left, IsEarly, IsBeyond}

-- ---- what is left out

-- Of a whole report and of what is missing, a night leaves out what lies below the first counters, and nothing else.
pub record LeavesOutTheRest (first : List Counter) (r : Report) (all : LogShortfalls) (n : NightReport) : Type 0 where
  -- each session is there, with its state and its groups
  pub sessions : map (λ b. b.report.session) n.sessions ≡ map (λ s. s.session) r.sessions
  pub states : map (λ b. b.report.state) n.sessions ≡ map (λ s. s.state) r.sessions
  pub groups : map (λ b. map (λ g. g.group) b.report.groups) n.sessions
      ≡ map (λ s. map (λ g. g.group) s.groups) r.sessions
  pub listed : (k : Key) (place : ℕ) → IsListed (report_left r n) k place ↔ IsListed r k place
  pub gaps : (k : Key) (why : Why) → IsGap (report_left r n) k why ↔ IsGap r k why
  pub holes : (k : Key)
      → IsInHole (report_left r n) k ↔ (IsInHole r k × (number_at first k.session k.group ≤ k.number))
  pub tails : (k : Key)
      → IsInTail (shortfalls_left n) k ↔ (IsInTail all k × (number_at first k.session k.group ≤ k.number))
  pub runs : (s : Session) (gbc : ℕ)
      → IsInRunOf (shortfalls_left n) s gbc ↔ (IsInRunOf all s gbc × (gbc_at first s ≤ gbc))
  -- a session that the log has no block of is left out only if it has a first counter and nothing of it is missing
  pub absent : (f : Shortfall) → Contains all.absent f
      → Contains n.absent (shortfall_left first f)
      ⊎ ((has_counter first f.session ≡ true) × ((shortfall_left first f).tails ≡ [])
      × ((shortfall_left first f).blocks ≡ []))
  pub none_added : (f : Shortfall) → Contains n.absent f
      → (whole : Shortfall) × Contains all.absent whole × (f ≡ shortfall_left first whole)

abbrev pub NightsLeaveOutTheRest : Type 0
NightsLeaveOutTheRest =
    (known : Option (List (List ℕ))) (says : Answers) (log : List (List ℕ)) (first : List Counter)
    (second : Option (List Counter))
    → LeavesOutTheRest first (log_report known says log) (shortfalls_by known says log (end_counters second))
    (night_by known says log first second)

-- ---- each number and each GBC of the night

-- A number from its group's first counter on and below the second one is exactly one of listed, a gap, in a hole and in
-- a tail of what is left.
abbrev pub NumbersOfNightsAreTold : Type 0
NumbersOfNightsAreTold =
    (known : Option (List (List ℕ))) (says : Answers) (log : List (List ℕ)) (first : List Counter)
    (second : Option (List Counter)) (k : Key)
    → number_at first k.session k.group ≤ k.number → k.number < kept_number (end_counters second) k.session k.group
    → let night = night_by known says log first second in
    let left = report_left (log_report known says log) night in
    (fate : Fate) × HasFate left (shortfalls_left night) k fate
    × ((other : Fate) → HasFate left (shortfalls_left night) k other → other ≡ fate)

-- A GBC from its session's first counter on and below the second one is that of a verified signature block, or in a run
-- of what is left. None is both.
abbrev pub BlocksOfNightsAreTold : Type 0
BlocksOfNightsAreTold =
    (known : Option (List (List ℕ))) (says : Answers) (log : List (List ℕ)) (first : List Counter)
    (second : Option (List Counter)) (s : Session) (gbc : ℕ)
    → let night = night_by known says log first second in
    (gbc_at first s ≤ gbc → gbc < kept_gbc (end_counters second) s
    → IsCounted says (log_blocks known says log) s gbc ⊎ IsInRunOf (shortfalls_left night) s gbc)
    × (IsCounted says (log_blocks known says log) s gbc → ¬ IsInRunOf (shortfalls_left night) s gbc)

-- ---- what is announced outside of the night

-- Runs of numbers, none empty. Of one group they rise, and no two of them touch, so each is a greatest one.
pub record AreRuns (runs : List NumberRun) : Type 0 where
  pub some_number : All (λ r. r.first ≤ r.last) runs
  pub apart : AllPairs (λ r q. r.group ≡ q.group → r.last + 1 < q.first) runs

-- the number doesn't lie below the second counter of its group, if there are second counters
abbrev pub IsPastTheEnd : Option (List Counter) → Key → Type 0
IsPastTheEnd None k = ⊥
IsPastTheEnd (Some cs) k = number_at cs k.session k.group ≤ k.number

-- The early numbers are the announced ones below the first counter of their group, and those beyond the night the
-- announced ones from the second counter on.
pub record OutsideAreThese (first : List Counter) (second : Option (List Counter)) (r : Report) (n : NightReport) :
    Type 0 where
  pub early : (k : Key) → IsEarly n k ↔ (IsTold r k × (k.number < number_at first k.session k.group))
  pub beyond : (k : Key) → IsBeyond n k ↔ (IsTold r k × IsPastTheEnd second k)
  pub early_runs : All (λ b. AreRuns b.early) n.sessions
  pub beyond_runs : All (λ b. AreRuns b.beyond) n.sessions

abbrev pub NumbersOutsideAreThese : Type 0
NumbersOutsideAreThese =
    (known : Option (List (List ℕ))) (says : Answers) (log : List (List ℕ)) (first : List Counter)
    (second : Option (List Counter))
    → OutsideAreThese first second (log_report known says log) (night_by known says log first second)
