use Rattle.ss_laws.proofs.of_ahead.Places.{numbers_are_places}
use Rattle.ss_laws.proofs.ahead.numbers_of_chains_are_places.Goals as goal

pub returns : goal.returns
returns c = numbers_are_places c.faults_are_of_no_message.ensures c.numbers_go_on.ensures
