use Rattle.ss_review.proofs.of_deliveries.WholeBlocks.{payloads_arrive}
use Rattle.ss_review.proofs.laws.whole.payloads_arrive.Goals as goal

pub returns : goal.returns
returns c = payloads_arrive
