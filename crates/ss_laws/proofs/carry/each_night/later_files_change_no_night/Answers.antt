use Rattle.ss_laws.proofs.of_carry.LaterFiles.{same_nights}
use Rattle.ss_laws.proofs.carry.each_night.later_files_change_no_night.Goals as goal

pub returns : goal.returns
returns c = λ says file log later last belong night low. same_nights file log later last belong says night low
