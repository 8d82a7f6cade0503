use Rattle.ss_laws.proofs.of_nights.NightVerdicts.{verdicts_of_nights}
use Rattle.ss_laws.proofs.nights.verdicts_are_of_nights.Goals as goal

pub returns : goal.returns
returns c = verdicts_of_nights
