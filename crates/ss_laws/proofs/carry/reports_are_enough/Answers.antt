use Rattle.ss_laws.proofs.of_carry.ReportsShow.{shown}
use Rattle.ss_laws.proofs.carry.reports_are_enough.Goals as goal

pub returns : goal.returns
returns c = λ says x last show collision. shown says x last show collision
