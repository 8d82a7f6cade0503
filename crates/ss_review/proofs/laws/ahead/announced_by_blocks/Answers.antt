use Rattle.ss_review.proofs.of_deliveries.CasesAhead.{announced_ahead}
use Rattle.ss_review.proofs.laws.ahead.announced_by_blocks.Goals as goal

pub returns : goal.returns
returns c =
    announced_ahead c.begins_first.ensures c.numbers_are_given_once.ensures (record {
      within = c.pieces_lie_within.ensures;
      apart = c.pieces_are_apart.ensures;
      stay = c.disputes_stay.ensures;
      whole = c.pieces_are_whole.ensures;
      read = c.texts_are_read.ensures;
      octets = c.texts_have_octets.ensures;
    }) c.announced_are_told.ensures
