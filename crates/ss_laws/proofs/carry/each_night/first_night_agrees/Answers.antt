use Rattle.ss_laws.proofs.of_carry.PremisesBefore.{first_agrees}
use Rattle.ss_laws.proofs.carry.each_night.first_night_agrees.Goals as goal

pub returns : goal.returns
returns c = first_agrees
