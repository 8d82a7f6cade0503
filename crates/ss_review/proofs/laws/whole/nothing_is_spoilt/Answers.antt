use Rattle.ss_review.proofs.of_deliveries.WholeBlocks.{nothing_is_spoilt}
use Rattle.ss_review.proofs.laws.whole.nothing_is_spoilt.Goals as goal

pub returns : goal.returns
returns c = nothing_is_spoilt
