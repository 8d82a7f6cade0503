use Rattle.ss_origin.proofs.GivenNumbers.{numbers_are_given_once}
use Rattle.ss_origin.proofs.laws.ahead.numbers_are_given_once.Goals as goal

pub returns : goal.returns
returns c = numbers_are_given_once c.faults_are_of_no_message.ensures
