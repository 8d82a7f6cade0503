use Rattle.ss_origin.proofs.Covered.{others_are_in_runs}
use Rattle.ss_origin.proofs.laws.runs.others_are_in_runs.Goals as goal

pub returns : goal.returns
returns c = others_are_in_runs
