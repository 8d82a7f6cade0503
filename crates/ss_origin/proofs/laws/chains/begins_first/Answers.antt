use Rattle.ss_origin.proofs.Beginning.{begins_first}
use Rattle.ss_origin.proofs.laws.chains.begins_first.Goals as goal

pub returns : goal.returns
returns c = begins_first
