-- A small log from which everything is lost that two originators sent, and what is reported of it.
use Rattle.std.specs.Prelude.{ℕ, List, [], ◌∷◌}
use Rattle.ss_origin.specs.Counting.{anew, resumed}
use Rattle.ss_origin.specs.Ahead.{Life}
use Rattle.ss_origin.specs.AheadLaws.{IsGiven}
use Rattle.ss_review.specs.declared.counted.counter.Counter.{Counter}
use Rattle.ss_review.specs.announced.Announced.{Key}
use Rattle.ss_review.specs.counted.KeptLaws.{shortfalls_of, number_kept, IsInTail, IsLost}
use Rattle.ss_review.specs.deliveries.Delivered.{own_number}
use Rattle.ss_review.specs.deliveries.DeliveryLaws.{Case, says}
use Rattle.ss_review.specs.deliveries.AheadDelivery.{IsCaseAhead}
use Rattle.ss_review.specs.deliveries.SmallChains.{message, first_turns, next_turns, ahead}
use Rattle.ss_laws.specs.ahead.Reported.{IsReported, AreNewest}

-- the first originator gave the numbers 1 to 3
abbrev pub first_life : Life
first_life = record { start = anew; turns = first_turns }

-- the next one began with counters that are 2 greater than the last ones, and gave the number 6
abbrev pub next_life : Life
next_life = record {
  start = resumed (record { gbc = 3; groups = record { spri = 0; number = 6 } ∷ [] });
  turns = next_turns 3 6;
}

-- nothing is stored of what they sent
abbrev pub emptied : Case
emptied = record ahead { log = [] }

-- the number of the last message
abbrev pub last_number : Key
last_number = own_number emptied 0 6

-- counters of a review, with the next number of the one group
abbrev pub next_is : ℕ → List Counter
next_is number = number_kept emptied (record { spri = 0; number = number }) ∷ []

-- The premises are met. A review with the newest counters reports the number of the last message in a tail. With those
-- of the originator before, no line reports it.
pub record LostLogIsThis : Type 0 where
  pub is_case : IsCaseAhead emptied (next_life ∷ first_life ∷ [])
  pub newest : AreNewest emptied next_life (next_is 7)
  pub given : IsGiven (next_life ∷ first_life ∷ []) (message 52)
  pub lost : IsLost emptied (message 52)
  pub told : IsInTail (shortfalls_of (says emptied) emptied.log (next_is 7)) last_number
  pub older : AreNewest emptied first_life (next_is 4)
  pub untold : ¬ IsReported emptied (next_is 4) last_number
