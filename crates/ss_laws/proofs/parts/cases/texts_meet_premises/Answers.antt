use Rattle.std.proofs.Common.{refl}
use Rattle.std.specs.Prelude.{None}
use Rattle.ss_review.specs.deliveries.SmallChains.{accepting}
use Rattle.ss_laws.specs.parts.cases.TextsInParts.{small_log, first_apart, sent_counters, given_first}
use Rattle.ss_laws.proofs.of_parts.cases.TextsInParts.{blocks_keep, cut_keeps, given, only_its}
use Rattle.ss_laws.proofs.parts.cases.texts_meet_premises.Goals as goal

pub returns : goal.returns
returns c =
    let values = c.readings_are_of_values.ensures in
    record {
      parts_are = refl;
      blocks_keep = blocks_keep values;
      cut_keeps = cut_keeps values;
      given = given values;
      only_its = only_its values;
      counters = c.counters_add_up.ensures None accepting small_log first_apart 2 (blocks_keep values);
      missing = c.missing_adds_up.ensures None accepting small_log first_apart 2 (blocks_keep values) sent_counters given_first (given values);
    }
