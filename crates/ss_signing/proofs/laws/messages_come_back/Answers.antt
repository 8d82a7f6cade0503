use Rattle.ss_signing.proofs.Wrapped.{messages_come_back}
use Rattle.ss_signing.proofs.laws.messages_come_back.Goals as goal

pub returns : goal.returns
returns c = messages_come_back
