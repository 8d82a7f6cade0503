use Rattle.ss_review.specs.announced.Announced.{keys}
use Rattle.ss_review.specs.deliveries.DeliveryLaws.{rows_in}
use Rattle.ss_octets.proofs.Members.{has_from_contains}
use Rattle.ss_review.proofs.of_deliveries.OwnKeys.{is_submitted}
use Rattle.ss_review.proofs.of_deliveries.OwnRanks.{listed_by_its_rank}
use Rattle.ss_review.proofs.laws.delivered.entries_are_by_rank.Goals as goal

pub returns : goal.returns
returns c = λ x is tell others k m own announced given.
    listed_by_its_rank c.keys_have_blocks.ensures x is tell others m (is_submitted c.keys_have_blocks.ensures x is k m given) k own (has_from_contains (keys (rows_in x)) k announced) given
