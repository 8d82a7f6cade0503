use Rattle.ss_signing.proofs.GoingOn.{runs_go_on}
use Rattle.ss_signing.proofs.laws.runs_go_on.Goals as goal

pub returns : goal.returns
returns c = runs_go_on
