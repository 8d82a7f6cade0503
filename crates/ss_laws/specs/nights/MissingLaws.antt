-- What is missing up to counters, as it is reported: line by line, each number and each GBC once.
use Rattle.std.specs.Prelude.{◌≡◌, ◌⊎◌, ℕ, ◌+◌, ◌<◌, ◌≤◌, true, Option, List, map, All, Contains}
use Rattle.std.specs.List.Sorted.{IsStrictlySortedBy}
use Rattle.ss_block.specs.declared.block.Group.{Group}
use Rattle.ss_block.specs.declared.session.Session.{Session}
use Rattle.ss_block.specs.Order.{session_cmp, group_cmp}
use Rattle.ss_review.specs.declared.counted.counter.Counter.{Counter}
use Rattle.ss_review.specs.declared.counted.shortfall.GroupTail.{GroupTail}
use Rattle.ss_review.specs.declared.counted.shortfall.Shortfall.{Shortfall}
use Rattle.ss_review.specs.declared.counted.shortfall.LogShortfalls.{LogShortfalls}
use Rattle.ss_review.specs.declared.report.session_report.SessionReport.{SessionReport}
use Rattle.ss_review.specs.keep.BlockMessage.{BlockMessage}
use Rattle.ss_review.specs.sessions.Verified.{Answers}
use Rattle.ss_review.specs.announced.Announcing.{IsAnnounced}
use Rattle.ss_review.specs.pinned.Stands.{shortfalls_by}
use Rattle.ss_review.specs.counted.CountedLaws.{IsCounted, AreMissing}
use Rattle.ss_review.specs.counted.Kept.{kept_number, kept_gbc}
use Rattle.ss_review.specs.counted.KeptLaws.{IsToldOf}
use Rattle.ss_between.specs.Between.{has_counter}
use Rattle.ss_laws.specs.nights.Night.{log_blocks, log_report}

-- ---- tails

-- the number of the group is announced
abbrev pub IsAnnouncedIn : Answers → List BlockMessage → Session → Group → ℕ → Type 0
IsAnnouncedIn says bs s g n = IsAnnounced says bs (record { session = s; group = g; number = n })

-- from the number after the last announced one, or from 1, to the one before the counter
pub record IsWholeTail (says : Answers) (bs : List BlockMessage) (cs : List Counter) (s : Session) (t : GroupTail) :
    Type 0 where
  pub above : (n : ℕ) → IsAnnouncedIn says bs s t.group n → n < t.first
  pub behind : (t.first ≡ 1) ⊎ ((n : ℕ) × IsAnnouncedIn says bs s t.group n × (t.first ≡ n + 1))
  pub some_number : t.first ≤ t.last
  pub up_to : t.last + 1 ≡ kept_number cs s t.group

-- ---- signature blocks

-- the greater of the counter and of what comes after the greatest GBC that is there
pub record IsEndOfBlocks (says : Answers) (bs : List BlockMessage) (cs : List Counter) (s : Session) (end : ℕ) :
    Type 0 where
  pub from_counter : kept_gbc cs s ≤ end
  pub above : (n : ℕ) → IsCounted says bs s n → n < end
  pub no_more : (end ≡ kept_gbc cs s) ⊎ ((n : ℕ) × IsCounted says bs s n × (end ≡ n + 1))

-- the runs are those of missing GBC below that end, each a greatest one
pub record AreWholeRuns (says : Answers) (bs : List BlockMessage) (cs : List Counter) (f : Shortfall) : Type 0 where
  pub end : ℕ
  pub end_is : IsEndOfBlocks says bs cs f.session end
  pub missing : AreMissing (IsCounted says bs f.session) end f.blocks

-- ---- all sessions

-- Each session of the report has one part, in their order. Of the others each that has a counter has one, rising. A
-- group has one tail at most, by rising group.
pub record IsReportedOnce (says : Answers) (bs : List BlockMessage) (ss : List SessionReport) (cs : List Counter)
    (all : LogShortfalls) : Type 0 where
  pub known : map (λ f. f.session) all.known ≡ map (λ r. r.session) ss
  pub absent : IsStrictlySortedBy session_cmp (map (λ f. f.session) all.absent)
  pub have_counters : All (λ f. has_counter cs f.session ≡ true) all.absent
  pub have_no_report : (f : Shortfall) (r : SessionReport) → Contains all.absent f
      → Contains ss r
      → ¬ (r.session ≡ f.session)
  pub each_has_one : (s : Session) → has_counter cs s ≡ true → (f : Shortfall) × IsToldOf all f × (f.session ≡ s)
  pub one_tail : (f : Shortfall) → IsToldOf all f → IsStrictlySortedBy group_cmp (map (λ t. t.group) f.tails)
  pub tails : (f : Shortfall) → IsToldOf all f → All (IsWholeTail says bs cs f.session) f.tails
  pub runs : (f : Shortfall) → IsToldOf all f → AreWholeRuns says bs cs f

abbrev pub MissingIsReportedOnce : Type 0
MissingIsReportedOnce =
    (known : Option (List (List ℕ))) (says : Answers) (log : List (List ℕ)) (cs : List Counter)
    → IsReportedOnce says (log_blocks known says log) (log_report known says log).sessions cs
    (shortfalls_by known says log cs)
