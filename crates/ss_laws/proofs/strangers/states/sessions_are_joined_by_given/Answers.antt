use Rattle.ss_laws.proofs.of_strangers.JoinedByGiven.{sessions_are_joined_by_given}
use Rattle.ss_laws.proofs.strangers.states.sessions_are_joined_by_given.Goals as goal

pub returns : goal.returns
returns c = sessions_are_joined_by_given
