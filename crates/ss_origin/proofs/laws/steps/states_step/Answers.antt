use Rattle.ss_origin.proofs.Steps.{states_step}
use Rattle.ss_origin.proofs.laws.steps.states_step.Goals as goal

pub returns : goal.returns
returns c = λ config start calls call some. states_step config start calls call some
