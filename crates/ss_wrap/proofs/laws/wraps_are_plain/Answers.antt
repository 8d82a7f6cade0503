use Rattle.ss_wrap.proofs.Wraps.{wraps_are_plain}
use Rattle.ss_wrap.proofs.laws.wraps_are_plain.Goals as goal

pub returns : goal.returns
returns c = wraps_are_plain
