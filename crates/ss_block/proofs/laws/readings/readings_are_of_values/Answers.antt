use Rattle.ss_block.proofs.Readings.{of_value, of_none}
use Rattle.ss_block.proofs.laws.readings.readings_are_of_values.Goals as goal

pub returns : goal.returns
returns c = (of_value c.one_text.ensures c.faults_are_of_no_message.ensures, of_none c.faults_are_of_no_message.ensures)
