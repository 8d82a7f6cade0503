use Rattle.ss_laws.proofs.of_strangers.JoinedByGiven.{same_states}
use Rattle.ss_laws.proofs.strangers.states.states_agree.Goals as goal

pub returns : goal.returns
returns c = same_states
