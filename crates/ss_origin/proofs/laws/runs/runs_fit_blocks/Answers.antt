use Rattle.ss_origin.proofs.RunsClosed.{runs_fit_blocks}
use Rattle.ss_origin.proofs.laws.runs.runs_fit_blocks.Goals as goal

pub returns : goal.returns
returns c = runs_fit_blocks
