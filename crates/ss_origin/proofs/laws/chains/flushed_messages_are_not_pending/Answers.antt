use Rattle.ss_origin.proofs.Flushed.{flushed_messages_are_not_pending}
use Rattle.ss_origin.proofs.laws.chains.flushed_messages_are_not_pending.Goals as goal

pub returns : goal.returns
returns c = flushed_messages_are_not_pending
