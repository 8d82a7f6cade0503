use Rattle.ss_review.proofs.of_deliveries.OwnPayload.{joins_own_payload}
use Rattle.ss_review.proofs.of_deliveries.StoredBlocks.{own_blocks_are_sent, sent_blocks_are_stored}
use Rattle.ss_review.proofs.of_deliveries.WholeBlocks.{payloads_arrive, blocks_are_verified}
use Rattle.ss_laws.proofs.ahead.blocks_are_verified.Goals as goal

pub returns : goal.returns
returns c =
    blocks_are_verified payloads_arrive own_blocks_are_sent sent_blocks_are_stored (joins_own_payload (record {
      within = c.pieces_lie_within.ensures;
      apart = c.pieces_are_apart.ensures;
      stay = c.disputes_stay.ensures;
      whole = c.pieces_are_whole.ensures;
      read = c.texts_are_read.ensures;
      octets = c.texts_have_octets.ensures;
    }) own_blocks_are_sent sent_blocks_are_stored c.begins_first.ensures)
