use Rattle.ss_payload.proofs.JoiningLaws.{repeats_are_free}
use Rattle.ss_payload.proofs.laws.joining.repeats_are_free.Goals as goal

pub returns : goal.returns
returns c = repeats_are_free
