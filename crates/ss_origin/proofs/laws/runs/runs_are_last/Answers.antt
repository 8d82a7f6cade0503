use Rattle.ss_origin.proofs.RunsClosed.{runs_are_last}
use Rattle.ss_origin.proofs.laws.runs.runs_are_last.Goals as goal

pub returns : goal.returns
returns c = runs_are_last
