use Rattle.ss_review.proofs.of_deliveries.StoredBlocks.{sent_blocks_are_stored}
use Rattle.ss_review.proofs.laws.delivered.sent_blocks_are_stored.Goals as goal

pub returns : goal.returns
returns c = sent_blocks_are_stored
