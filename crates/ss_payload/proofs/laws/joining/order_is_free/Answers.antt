use Rattle.ss_payload.proofs.JoiningLaws.{order_is_free}
use Rattle.ss_payload.proofs.laws.joining.order_is_free.Goals as goal

pub returns : goal.returns
returns c = order_is_free
