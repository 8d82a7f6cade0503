use Rattle.ss_wrap.proofs.Wraps.{prepared_are_plain}
use Rattle.ss_wrap.proofs.laws.prepared_are_plain.Goals as goal

pub returns : goal.returns
returns c = prepared_are_plain
