use Rattle.ss_origin.proofs.SignedAhead.{messages_ahead_are_signed}
use Rattle.ss_origin.proofs.laws.ahead.messages_are_signed.Goals as goal

pub returns : goal.returns
returns c = messages_ahead_are_signed c.faults_are_of_no_message.ensures
