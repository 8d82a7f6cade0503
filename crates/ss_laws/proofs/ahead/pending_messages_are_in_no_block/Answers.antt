use Rattle.ss_laws.proofs.of_ahead.Pending.{pending_in_no_block}
use Rattle.ss_laws.proofs.ahead.pending_messages_are_in_no_block.Goals as goal

pub returns : goal.returns
returns c = pending_in_no_block c.faults_are_of_no_message.ensures
