use Rattle.ss_payload.proofs.JoiningLaws.{disputes_stay}
use Rattle.ss_payload.proofs.laws.joining.disputes_stay.Goals as goal

pub returns : goal.returns
returns c = disputes_stay
