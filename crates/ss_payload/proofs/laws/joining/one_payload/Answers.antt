use Rattle.ss_payload.proofs.JoiningLaws.{one_payload}
use Rattle.ss_payload.proofs.laws.joining.one_payload.Goals as goal

pub returns : goal.returns
returns c = one_payload
