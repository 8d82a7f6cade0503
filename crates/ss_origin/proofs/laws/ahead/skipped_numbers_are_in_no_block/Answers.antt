use Rattle.ss_origin.proofs.SkippedNumbers.{skipped_numbers_are_in_no_block}
use Rattle.ss_origin.proofs.laws.ahead.skipped_numbers_are_in_no_block.Goals as goal

pub returns : goal.returns
returns c = skipped_numbers_are_in_no_block c.faults_are_of_no_message.ensures
