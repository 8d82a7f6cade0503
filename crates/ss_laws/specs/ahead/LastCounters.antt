-- The counters of a log in which everything is that originators of one session sent, and nothing else.
use Rattle.std.specs.Prelude.{◌≡◌, List, [], ◌∷◌}
use Rattle.ss_origin.specs.Groups.{group_of}
use Rattle.ss_review.specs.declared.counted.counter.Counter.{Counter}
use Rattle.ss_review.specs.declared.counted.counter.Counts.TheVariants.{Blocks, Messages}
use Rattle.ss_review.specs.counted.KeptLaws.{log_counters, counters_kept}
use Rattle.ss_review.specs.deliveries.Delivery.{own_session}
use Rattle.ss_review.specs.deliveries.DeliveryLaws.{Case, says}
use Rattle.ss_review.specs.deliveries.SmallChains.{small, whole}
use Rattle.ss_review.specs.deliveries.Whole.{IsWhole}

-- The counters that a review of the log gives are those with which the newest originator ended, one after another: the
-- GBC of the next signature block, and the number of the next message of each group that was given one.
abbrev pub WholeLogsGiveTheLastCounters : Type 0
WholeLogsGiveTheLastCounters = (x : Case) → IsWhole x → log_counters (says x) x.log ≡ counters_kept x

-- one signature block was sent, for the one message of the one group
abbrev pub small_counters : List Counter
small_counters =
    record { session = own_session small; counts = Blocks; next = 1 }
    ∷ record { session = own_session small; counts = Messages (group_of small.config.grouping 0); next = 2 }
    ∷ []

-- The premises are met by the log that has everything, and its counters are these.
pub record SmallCountersAreThese : Type 0 where
  pub is_whole : IsWhole whole
  pub counters : log_counters (says whole) whole.log ≡ small_counters
