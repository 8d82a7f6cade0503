use Rattle.ss_review.proofs.of_deliveries.WholeBlocks.{blocks_are_verified}
use Rattle.ss_review.proofs.laws.whole.blocks_are_verified.Goals as goal

pub returns : goal.returns
returns c = blocks_are_verified c.payloads_arrive.ensures c.own_blocks_are_sent.ensures c.sent_blocks_are_stored.ensures c.joins_own_payload.ensures
