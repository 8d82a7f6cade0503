-- Lost messages of originators that go on ahead, in a review by given payloads with the newest counters.
use Rattle.std.specs.Prelude.{ℕ, List, ◌∷◌}
use Rattle.ss_origin.specs.Ahead.{Life}
use Rattle.ss_origin.specs.AheadLaws.{IsGiven, number_given}
use Rattle.ss_origin.specs.Calls.{spri_in}
use Rattle.ss_review.specs.declared.counted.counter.Counter.{Counter}
use Rattle.ss_review.specs.counted.KeptLaws.{IsLost}
use Rattle.ss_review.specs.deliveries.Delivered.{own_number}
use Rattle.ss_review.specs.deliveries.DeliveryLaws.{Case}
use Rattle.ss_laws.specs.ahead.Reported.{AreAhead, AreNewest}
use Rattle.ss_laws.specs.strangers.Unforged.{IsUnforged}
use Rattle.ss_laws.specs.strangers.UnforgedLaws.{IsReported}

-- With the counters with which the newest originator ended, or with greater ones, a review reports the number of each
-- message that an originator was given and that is lost.
abbrev pub LostAreReportedByTheNewestCounters : Type 0
LostAreReportedByTheNewestCounters = (x : Case) (ps : List (List ℕ)) (newest : Life) (older : List Life)
    → AreAhead x (newest ∷ older) → IsUnforged x ps → (cs : List Counter) → AreNewest x newest cs
    → (m : List ℕ) (g : IsGiven (newest ∷ older) m) → IsLost x m
    → IsReported x ps cs (own_number x (spri_in x.s.config.grouping m) (number_given x.s.config g))
