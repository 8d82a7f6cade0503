use Rattle.ss_laws.proofs.of_ahead.Pending.{only_pending_in_no_block}
use Rattle.ss_laws.proofs.ahead.only_pending_messages_are_in_no_block.Goals as goal

pub returns : goal.returns
returns c = only_pending_in_no_block c.messages_are_signed.ensures
