use Rattle.ss_block.proofs.Marks.{text_marked}
use Rattle.ss_block.proofs.laws.readings.blocks_are_marked.Goals as goal

pub returns : goal.returns
returns c = text_marked c.faults_are_of_no_message.ensures
