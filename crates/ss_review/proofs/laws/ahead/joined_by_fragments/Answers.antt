use Rattle.ss_review.proofs.of_deliveries.CasesAhead.{joined_ahead}
use Rattle.ss_review.proofs.laws.ahead.joined_by_fragments.Goals as goal

pub returns : goal.returns
returns c =
    joined_ahead c.begins_first.ensures (record {
      within = c.pieces_lie_within.ensures;
      apart = c.pieces_are_apart.ensures;
      stay = c.disputes_stay.ensures;
      whole = c.pieces_are_whole.ensures;
      read = c.texts_are_read.ensures;
      octets = c.texts_have_octets.ensures;
    }) c.one_report.ensures
