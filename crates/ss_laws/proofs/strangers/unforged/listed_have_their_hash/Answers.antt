use Rattle.ss_laws.proofs.of_strangers.UnforgedNumbers.{listed_hash}
use Rattle.ss_laws.proofs.strangers.unforged.listed_have_their_hash.Goals as goal

pub returns : goal.returns
returns c = listed_hash c.numbers_are_given_once.ensures
