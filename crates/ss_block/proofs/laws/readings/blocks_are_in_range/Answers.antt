use Rattle.ss_block.proofs.ReadBlocks.{signature_in_range, certificate_in_range}
use Rattle.ss_block.proofs.laws.readings.blocks_are_in_range.Goals as goal

pub returns : goal.returns
returns c = (signature_in_range, certificate_in_range c.faults_are_of_no_message.ensures)
