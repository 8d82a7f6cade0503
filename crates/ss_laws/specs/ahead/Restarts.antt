-- What holds over any stop and restart of an originator.
use Rattle.std.specs.Prelude.{◌≡◌, ℕ, List, ◌∷◌, length}
use Rattle.ss_origin.specs.Calls.{spri_in}
use Rattle.ss_origin.specs.Ahead.{Life}
use Rattle.ss_origin.specs.AheadLaws.{IsGiven, number_given}
use Rattle.ss_review.specs.declared.counted.counter.Counter.{Counter}
use Rattle.ss_review.specs.declared.report.entry.Why.TheVariants as whys
use Rattle.ss_review.specs.announced.Announced.{Key}
use Rattle.ss_review.specs.report.Meaning.{IsGap}
use Rattle.ss_review.specs.deliveries.Delivery.{own_session, Delivers}
use Rattle.ss_review.specs.deliveries.DeliveryLaws.{Case, report_in}
use Rattle.ss_laws.specs.ahead.Reported.{AreAhead, AreNewest, LostAreReportedUpTo}

-- Two messages that got one number of a group are one, accepted in one call. No number of the session is disputed. The
-- number of each lost message is reported.
pub record HidesNothing (x : Case) (lives : List Life) (cs : List Counter) : Type 0 where
  pub once : (m n : List ℕ) (g : IsGiven lives m) (h : IsGiven lives n)
      → spri_in x.s.config.grouping m ≡ spri_in x.s.config.grouping n
      → number_given x.s.config g ≡ number_given x.s.config h
      → (m ≡ n) × (length g.older ≡ length h.older) × (length g.earlier ≡ length h.earlier)
  pub undisputed : (k : Key) → k.session ≡ own_session x.s → ¬ IsGap (report_in x) k whys.Disputed
  pub lost : LostAreReportedUpTo x lives cs

-- So it is of each chain that goes on ahead, each log that delivers from it, and a review with the newest counters.
abbrev pub RestartsHideNothing : Type 0
RestartsHideNothing = (x : Case) (newest : Life) (older : List Life) → AreAhead x (newest ∷ older)
    → Delivers x.s x.chain x.log → (cs : List Counter) → AreNewest x newest cs → HidesNothing x (newest ∷ older) cs
