use Rattle.ss_review.proofs.of_counters.LostTold.{lost_are_told}
use Rattle.ss_review.proofs.laws.kept.lost_are_told.Goals as goal

pub returns : goal.returns
returns c = lost_are_told c.every_number_is_told.ensures c.listed_have_their_hash.ensures
