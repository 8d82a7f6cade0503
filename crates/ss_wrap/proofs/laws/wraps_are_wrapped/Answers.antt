use Rattle.ss_wrap.proofs.Wraps.{wraps_are_wrapped}
use Rattle.ss_wrap.proofs.laws.wraps_are_wrapped.Goals as goal

pub returns : goal.returns
returns c = wraps_are_wrapped
