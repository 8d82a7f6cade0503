use Rattle.ss_review.proofs.of_deliveries.WholeNumbers.{numbers_are_announced}
use Rattle.ss_review.proofs.laws.whole.numbers_are_announced.Goals as goal

pub returns : goal.returns
returns c = numbers_are_announced c.payloads_arrive.ensures c.joined_by_fragments.ensures c.keys_have_blocks.ensures c.numbers_have_blocks.ensures
