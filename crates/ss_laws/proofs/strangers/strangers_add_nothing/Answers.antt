use Rattle.ss_laws.proofs.of_strangers.StrangersAlike.{add_nothing}
use Rattle.ss_laws.proofs.strangers.strangers_add_nothing.Goals as goal

pub returns : goal.returns
returns c = add_nothing
