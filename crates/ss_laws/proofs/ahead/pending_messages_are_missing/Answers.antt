use Rattle.ss_laws.proofs.of_ahead.Pending.{pending_missing}
use Rattle.ss_laws.proofs.ahead.pending_messages_are_missing.Goals as goal

pub returns : goal.returns
returns c =
    pending_missing c.faults_are_of_no_message.ensures c.pending_messages_are_in_no_block.ensures c.announced_by_blocks.ensures c.every_number_is_told.ensures
