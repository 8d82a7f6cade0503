use Rattle.ss_wrap.proofs.Wraps.{prepared_differ}
use Rattle.ss_wrap.proofs.laws.prepared_differ.Goals as goal

pub returns : goal.returns
returns c = prepared_differ
