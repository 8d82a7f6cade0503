use Rattle.ss_review.proofs.of_deliveries.CasesAhead.{skipped_are_missing}
use Rattle.ss_review.proofs.laws.ahead.skipped_numbers_are_missing.Goals as goal

pub returns : goal.returns
returns c = skipped_are_missing c.skipped_numbers_are_in_holes.ensures c.every_number_is_told.ensures
