use Rattle.ss_laws.proofs.of_strangers.UnforgedNumbers.{announced_given}
use Rattle.ss_laws.proofs.strangers.unforged.announced_are_given.Goals as goal

pub returns : goal.returns
returns c = announced_given c.numbers_are_given_once.ensures
