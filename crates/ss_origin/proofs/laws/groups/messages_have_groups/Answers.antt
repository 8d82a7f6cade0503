use Rattle.ss_origin.proofs.Groups.{messages_have_groups}
use Rattle.ss_origin.proofs.laws.groups.messages_have_groups.Goals as goal

pub returns : goal.returns
returns c = messages_have_groups c.faults_are_of_no_message.ensures
