use Rattle.ss_payload.proofs.JoiningLaws.{one_state}
use Rattle.ss_payload.proofs.laws.joining.one_state.Goals as goal

pub returns : goal.returns
returns c = one_state
