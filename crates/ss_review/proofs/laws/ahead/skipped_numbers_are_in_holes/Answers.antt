use Rattle.ss_review.proofs.of_deliveries.CasesAhead.{skipped_are_in_holes}
use Rattle.ss_review.proofs.laws.ahead.skipped_numbers_are_in_holes.Goals as goal

pub returns : goal.returns
returns c = skipped_are_in_holes c.skipped_numbers_are_in_no_block.ensures c.announced_are_told.ensures c.keys_are_announced.ensures c.one_report.ensures
