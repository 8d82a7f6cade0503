use Rattle.ss_review.proofs.of_deliveries.SmallChains.{premises_are_met}
use Rattle.ss_review.proofs.laws.cases.premises_are_met.Goals as goal

pub returns : goal.returns
returns c =
    premises_are_met c.sent_blocks_are_stored.ensures (record {
      values = c.readings_are_of_values.ensures;
      signatures = c.signatures_are_read.ensures;
      certificates = c.certificates_are_read.ensures;
    })
