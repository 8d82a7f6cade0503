use Rattle.ss_review.proofs.of_deliveries.AnnouncedNumbers.{keys_have_blocks}
use Rattle.ss_review.proofs.laws.delivered.keys_have_blocks.Goals as goal

pub returns : goal.returns
returns c = keys_have_blocks c.own_blocks_are_sent.ensures c.sent_blocks_are_stored.ensures c.joins_own_payload.ensures c.sent_blocks_are_numbered.ensures
