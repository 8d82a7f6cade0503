use Rattle.ss_origin.proofs.Sent.{sent_blocks_are_numbered}
use Rattle.ss_origin.proofs.laws.chains.sent_blocks_are_numbered.Goals as goal

pub returns : goal.returns
returns c = sent_blocks_are_numbered c.faults_are_of_no_message.ensures
