use Rattle.std.proofs.Common.{sym, ◌∙◌}
use Rattle.ss_review.specs.report.Report.{refused}
use Rattle.ss_octets.proofs.Members.{has_from_contains, contains_from_has}
use Rattle.ss_laws.specs.carry.Nights.{night_log, so_far}
use Rattle.ss_laws.proofs.of_carry.NightBlocks.{all_in_range}
use Rattle.ss_laws.proofs.of_carry.RefusedNights.{refused_in_nights, from_refused_in_nights, spoilt_in_night, from_spoilt_in_night, spoilt_file, counts}
use Rattle.ss_laws.proofs.carry.places_of_nights.Goals as goal

pub returns : goal.returns
returns c = λ says x last are leave stay.
    (let ranges = all_in_range c.blocks_are_in_range.ensures x.whole are in
    let told = refused says (so_far x last).blocks in
    record {
      refused = λ place. (
        λ h. refused_in_nights says x ranges last leave stay place (has_from_contains told place h),
        λ r. contains_from_has told place (from_refused_in_nights says x ranges last leave place r),
      );
      spoilt = λ s. (
        λ h. (let w = spoilt_in_night says x ranges last leave s (has_from_contains (so_far x last).spoilt s h) in (w.0, w.1, contains_from_has (night_log x w.0).spoilt s w.2)),
        λ w. contains_from_has (so_far x last).spoilt s (from_spoilt_in_night says x ranges last leave s w.0 w.1 (has_from_contains (night_log x w.0).spoilt s w.2)),
      );
      spoilt_once = λ s night other low high h i.
          sym (spoilt_file says x ranges last leave s night low (has_from_contains (night_log x night).spoilt s h))
          ∙ spoilt_file says x ranges last leave s other high (has_from_contains (night_log x other).spoilt s i);
      count = counts x last;
    })
