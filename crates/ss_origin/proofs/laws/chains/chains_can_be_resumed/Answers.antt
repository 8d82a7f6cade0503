use Rattle.ss_origin.proofs.CountersInRange.{chains_can_be_resumed}
use Rattle.ss_origin.proofs.laws.chains.chains_can_be_resumed.Goals as goal

pub returns : goal.returns
returns c = chains_can_be_resumed c.faults_are_of_no_message.ensures
