use Rattle.ss_review.proofs.of_reports.ToldNumbers.{announced_by_blocks}
use Rattle.ss_review.proofs.laws.deliveries.announced_by_blocks.Goals as goal

pub returns : goal.returns
returns c = announced_by_blocks c.keys_have_blocks.ensures c.announced_are_told.ensures c.keys_are_announced.ensures
