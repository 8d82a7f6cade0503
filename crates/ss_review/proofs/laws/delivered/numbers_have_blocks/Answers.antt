use Rattle.ss_review.proofs.of_deliveries.NumbersCovered.{numbers_have_blocks}
use Rattle.ss_review.proofs.laws.delivered.numbers_have_blocks.Goals as goal

pub returns : goal.returns
returns c = numbers_have_blocks c.others_are_sent.ensures
