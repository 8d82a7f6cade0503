use Rattle.ss_review.proofs.of_deliveries.StoredBlocks.{own_blocks_are_sent}
use Rattle.ss_review.proofs.laws.delivered.own_blocks_are_sent.Goals as goal

pub returns : goal.returns
returns c = own_blocks_are_sent
