use Rattle.ss_laws.proofs.of_strangers.UnforgedNumbers.{nothing_disputed}
use Rattle.ss_laws.proofs.strangers.unforged.nothing_is_disputed.Goals as goal

pub returns : goal.returns
returns c = nothing_disputed c.numbers_are_given_once.ensures
