use Rattle.ss_block.proofs.Readings.{of_fault, of_row}
use Rattle.ss_block.proofs.laws.readings.unparsed_texts_fail.Goals as goal

pub returns : goal.returns
returns c = (of_fault c.faults_are_rows.ensures, of_row c.faults_are_rows.ensures)
