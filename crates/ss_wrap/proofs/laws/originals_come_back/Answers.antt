use Rattle.ss_wrap.proofs.Wraps.{originals_come_back}
use Rattle.ss_wrap.proofs.laws.originals_come_back.Goals as goal

pub returns : goal.returns
returns c = originals_come_back
