use Rattle.ss_laws.proofs.of_ahead.Delivered.{nothing_disputed}
use Rattle.ss_laws.proofs.ahead.nothing_is_disputed.Goals as goal

pub returns : goal.returns
returns c = nothing_disputed c.numbers_are_given_once.ensures
