use Rattle.ss_review.proofs.of_deliveries.WholeMessages.{messages_are_stored}
use Rattle.ss_review.proofs.laws.whole.messages_are_stored.Goals as goal

pub returns : goal.returns
returns c = messages_are_stored
