use Rattle.ss_review.proofs.of_deliveries.OwnPayload.{joins_own_payload}
use Rattle.ss_review.proofs.laws.delivered.joins_own_payload.Goals as goal

pub returns : goal.returns
returns c =
    joins_own_payload (record {
      within = c.pieces_lie_within.ensures;
      apart = c.pieces_are_apart.ensures;
      stay = c.disputes_stay.ensures;
      whole = c.pieces_are_whole.ensures;
      read = c.texts_are_read.ensures;
      octets = c.texts_have_octets.ensures;
    }) c.own_blocks_are_sent.ensures c.sent_blocks_are_stored.ensures c.begins_first.ensures
