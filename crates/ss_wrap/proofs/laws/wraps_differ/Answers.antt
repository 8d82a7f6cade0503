use Rattle.ss_wrap.proofs.Wraps.{wraps_differ}
use Rattle.ss_wrap.proofs.laws.wraps_differ.Goals as goal

pub returns : goal.returns
returns c = wraps_differ
