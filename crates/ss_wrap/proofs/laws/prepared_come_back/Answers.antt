use Rattle.ss_wrap.proofs.Wraps.{prepared_come_back}
use Rattle.ss_wrap.proofs.laws.prepared_come_back.Goals as goal

pub returns : goal.returns
returns c = prepared_come_back
