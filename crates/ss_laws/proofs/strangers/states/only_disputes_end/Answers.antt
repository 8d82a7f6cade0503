use Rattle.ss_laws.proofs.of_strangers.JoinedByGiven.{only_disputes}
use Rattle.ss_laws.proofs.strangers.states.only_disputes_end.Goals as goal

pub returns : goal.returns
returns c = only_disputes
