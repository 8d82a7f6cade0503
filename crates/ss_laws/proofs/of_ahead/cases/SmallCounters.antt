-- The counters of a small log that has everything.
use Rattle.std.proofs.Common.{◌≡◌, refl, ◌∙◌}
use Rattle.ss_origin.specs.Calls.{pending_of}
use Rattle.ss_review.specs.counted.KeptLaws.{counters_kept}
use Rattle.ss_review.specs.deliveries.SmallChains.{whole, PremisesAreMet}
use Rattle.ss_review.specs.deliveries.Whole.{IsWhole}
use Rattle.ss_laws.specs.ahead.LastCounters.{WholeLogsGiveTheLastCounters, small_counters, SmallCountersAreThese}

kept_are : counters_kept whole ≡ small_counters
unfolding counters_kept pending_of
kept_are = refl

whole_is_whole : PremisesAreMet → IsWhole whole
whole_is_whole p = record {
  case = p.whole_is_case;
  pairs = p.hashes_tell_pairs;
  begun = p.has_begun;
  complete = p.nothing_pending;
  delivered = p.whole_delivery;
}

pub small_counters_are : PremisesAreMet → WholeLogsGiveTheLastCounters → SmallCountersAreThese
small_counters_are p law = record { is_whole = whole_is_whole p; counters = law whole (whole_is_whole p) ∙ kept_are }
