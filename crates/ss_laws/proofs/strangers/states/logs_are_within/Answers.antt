use Rattle.ss_laws.proofs.of_strangers.JoinedByGiven.{logs_are_within}
use Rattle.ss_laws.proofs.strangers.states.logs_are_within.Goals as goal

pub returns : goal.returns
returns c = logs_are_within c.blocks_are_in_range.ensures
