use Rattle.ss_laws.proofs.of_carry.PremisesBefore.{so_far_are_logs}
use Rattle.ss_laws.proofs.carry.each_night.files_so_far_are_logs.Goals as goal

pub returns : goal.returns
returns c = so_far_are_logs
