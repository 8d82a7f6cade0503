use Rattle.ss_origin.proofs.Covered.{messages_fall_into_runs}
use Rattle.ss_origin.proofs.laws.runs.messages_fall_into_runs.Goals as goal

pub returns : goal.returns
returns c = messages_fall_into_runs
