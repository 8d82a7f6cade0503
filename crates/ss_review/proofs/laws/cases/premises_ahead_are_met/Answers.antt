use Rattle.ss_review.proofs.of_deliveries.SmallChains.{premises_ahead_are_met}
use Rattle.ss_review.proofs.laws.cases.premises_ahead_are_met.Goals as goal

pub returns : goal.returns
returns c =
    premises_ahead_are_met (record {
      values = c.readings_are_of_values.ensures;
      signatures = c.signatures_are_read.ensures;
      certificates = c.certificates_are_read.ensures;
    }) c.joined_by_fragments.ensures c.announced_by_blocks.ensures c.skipped_numbers_are_in_holes.ensures
