use Rattle.ss_origin.proofs.RunsClosed.{runs_have_small_spris}
use Rattle.ss_origin.proofs.laws.runs.runs_have_small_spris.Goals as goal

pub returns : goal.returns
returns c = runs_have_small_spris c.faults_are_of_no_message.ensures
