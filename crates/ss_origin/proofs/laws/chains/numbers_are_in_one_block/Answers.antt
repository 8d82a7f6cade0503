use Rattle.ss_origin.proofs.ChainsAhead.{numbers_are_in_one_block}
use Rattle.ss_origin.proofs.laws.chains.numbers_are_in_one_block.Goals as goal

pub returns : goal.returns
returns c = numbers_are_in_one_block c.faults_are_of_no_message.ensures
