use Rattle.ss_laws.proofs.of_strangers.StrangersAlike.{take_nothing}
use Rattle.ss_laws.proofs.strangers.strangers_take_nothing.Goals as goal

pub returns : goal.returns
returns c = take_nothing
