use Rattle.ss_origin.proofs.Numbered.{runs_are_numbered}
use Rattle.ss_origin.proofs.laws.chains.runs_are_numbered.Goals as goal

pub returns : goal.returns
returns c = runs_are_numbered
