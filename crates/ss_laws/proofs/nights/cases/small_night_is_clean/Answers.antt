use Rattle.std.proofs.Common.{[], arith}
use Rattle.std.specs.Prelude.{None}
use Rattle.ss_review.specs.counted.Kept.{number_in}
use Rattle.ss_review.specs.deliveries.SmallChains.{accepting, whole}
use Rattle.ss_laws.specs.nights.CleanLaws.{DontFall}
use Rattle.ss_laws.specs.nights.SmallNights.{small_end, small_number}
use Rattle.ss_laws.proofs.of_nights.OwnCounters.{begins_at_1}
use Rattle.ss_laws.proofs.nights.cases.small_night_is_clean.Goals as goal

none_falls : DontFall [] small_end
unfolding number_in
none_falls s g = omega arith

stays : DontFall small_end small_end
stays s g = omega arith

pub returns : goal.returns
returns c =
    let all = c.whole_is_reported.ensures in
    let clean = c.clean_logs_are_clean_nights.ensures None accepting whole.log all.clean all.nothing_is_missing in
    let one = begins_at_1 small_number.session small_number.group in
    record {
      clean = clean;
      follow = (clean, none_falls, (c.idle_nights_are_clean.ensures accepting small_end, stays, tt));
      from = omega (arith, one);
      below = (c.announced_are_below_own_counters.ensures None accepting whole.log small_number ((c.announced_are_told.ensures accepting whole.log small_number).0 all.is_told)).1;
      told = all.is_told;
    }
