-- What a review reports about a log that delivers from originators of one session which go on ahead, whether their payload
-- is trusted or not, and whatever is accepted.
use Rattle.std.specs.Prelude.{◌≡◌, ◌⊎◌, ℕ, ◌<◌, ◌≤◌, List, ◌∷◌, Contains}
use Rattle.ss_origin.specs.declared.counters.NextNumber.{NextNumber}
use Rattle.ss_origin.specs.declared.counters.Counters.{Counters}
use Rattle.ss_origin.specs.Calls.{spri_in}
use Rattle.ss_origin.specs.Ahead.{Life, ended_with, AreAtLeast, IsChainAhead}
use Rattle.ss_origin.specs.AheadLaws.{IsGiven, number_given}
use Rattle.ss_review.specs.declared.counted.counter.Counter.{Counter}
use Rattle.ss_review.specs.declared.report.entry.Why.TheVariants as whys
use Rattle.ss_review.specs.announced.Announced.{Key}
use Rattle.ss_review.specs.report.Meaning.{IsListed, IsGap}
use Rattle.ss_review.specs.counted.Kept.{kept_number}
use Rattle.ss_review.specs.counted.KeptLaws.{shortfalls_of, IsInTail, IsInHole, number_kept, IsLost}
use Rattle.ss_review.specs.deliveries.Delivery.{own_session, Delivers}
use Rattle.ss_review.specs.deliveries.Delivered.{own_number}
use Rattle.ss_review.specs.deliveries.DeliveryLaws.{Case, says, report_in}
use Rattle.ss_review.specs.deliveries.AheadDelivery.{turns_in, HasNumber, HasHashOfNumber}

-- the turns of the case are those of originators of which each goes on from the last counters, or from greater ones
pub record AreAhead (x : Case) (lives : List Life) : Type 0 where
  pub chain : IsChainAhead x.s lives
  pub turns : x.chain ≡ turns_in lives

-- no number of the session is a gap for a dispute
abbrev pub NothingIsDisputed : Type 0
NothingIsDisputed = (x : Case) (lives : List Life) → AreAhead x lives → Delivers x.s x.chain x.log
    → (k : Key) → k.session ≡ own_session x.s → ¬ IsGap (report_in x) k whys.Disputed

-- What is listed under a number of the session has the hash of the message that got this number.
abbrev pub ListedHaveTheirHash : Type 0
ListedHaveTheirHash = (x : Case) (lives : List Life) → AreAhead x lives → Delivers x.s x.chain x.log
    → (k : Key) (place : ℕ) → k.session ≡ own_session x.s → IsListed (report_in x) k place
    → HasHashOfNumber x lives k place

-- ---- counters that go past a number

-- A review with these counters reports the number: as a gap that is lost, in a hole or in a tail.
abbrev pub IsReported : Case → List Counter → Key → Type 0
IsReported x cs k =
    IsGap (report_in x) k whys.Lost ⊎ (IsInHole (report_in x) k ⊎ IsInTail (shortfalls_of (says x) x.log cs) k)

-- If counters go past the number that a lost message got, that number is reported.
abbrev pub LostAreReported : Type 0
LostAreReported = (x : Case) (lives : List Life) → AreAhead x lives → Delivers x.s x.chain x.log
    → (k : Key) (m : List ℕ) → k.session ≡ own_session x.s → HasNumber x.s.config lives k m → IsLost x m
    → (cs : List Counter) → 1 ≤ k.number → k.number < kept_number cs k.session k.group → IsReported x cs k

-- ---- the newest counters

-- The counters of a review have the next number of each group that an originator's counters name. They may have more.
abbrev pub HaveNumbers : Case → Counters → List Counter → Type 0
HaveNumbers x k cs = (n : NextNumber) → Contains k.groups n → Contains cs (number_kept x n)

-- the counters of a review are those with which the newest originator ended, or greater ones
pub record AreNewest (x : Case) (newest : Life) (cs : List Counter) : Type 0 where
  pub counters : Counters
  pub least : AreAtLeast (ended_with x.s.config newest) counters
  pub numbers : HaveNumbers x counters cs

-- With these counters a review reports the number of each message that an originator was given and that is lost.
abbrev pub LostAreReportedUpTo : Case → List Life → List Counter → Type 0
LostAreReportedUpTo x lives cs = (m : List ℕ) (g : IsGiven lives m) → IsLost x m
    → IsReported x cs (own_number x (spri_in x.s.config.grouping m) (number_given x.s.config g))

-- Each lost message is reported up to the counters with which the newest originator ended, or greater ones.
abbrev pub LostAreReportedByTheNewestCounters : Type 0
LostAreReportedByTheNewestCounters = (x : Case) (newest : Life) (older : List Life) → AreAhead x (newest ∷ older)
    → Delivers x.s x.chain x.log → (cs : List Counter) → AreNewest x newest cs → LostAreReportedUpTo x (newest ∷ older) cs
