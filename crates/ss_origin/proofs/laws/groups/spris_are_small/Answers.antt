use Rattle.ss_origin.proofs.Groups.{spris_are_small}
use Rattle.ss_origin.proofs.laws.groups.spris_are_small.Goals as goal

pub returns : goal.returns
returns c = spris_are_small c.faults_are_of_no_message.ensures
