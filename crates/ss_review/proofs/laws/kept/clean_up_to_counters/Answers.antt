use Rattle.ss_review.proofs.of_counters.CleanUpTo.{clean_up_to}
use Rattle.ss_review.proofs.laws.kept.clean_up_to_counters.Goals as goal

pub returns : goal.returns
returns c = clean_up_to c.every_number_is_told.ensures c.every_block_is_told.ensures
