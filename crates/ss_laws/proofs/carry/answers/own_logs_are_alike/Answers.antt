use Rattle.ss_laws.proofs.of_carry.OwnTexts.{logs_alike}
use Rattle.ss_laws.proofs.carry.answers.own_logs_are_alike.Goals as goal

pub returns : goal.returns
returns c = λ says own file log last agree night low. logs_alike says own file log last agree night low
