use Rattle.ss_origin.proofs.PendingNumbers.{pending_messages_are_in_no_block}
use Rattle.ss_origin.proofs.laws.chains.pending_messages_are_in_no_block.Goals as goal

pub returns : goal.returns
returns c = pending_messages_are_in_no_block c.faults_are_of_no_message.ensures
