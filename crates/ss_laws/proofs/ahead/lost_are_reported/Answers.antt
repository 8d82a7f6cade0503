use Rattle.ss_laws.proofs.of_ahead.Delivered.{lost_reported}
use Rattle.ss_laws.proofs.ahead.lost_are_reported.Goals as goal

pub returns : goal.returns
returns c = lost_reported c.numbers_are_given_once.ensures c.every_number_is_told.ensures
