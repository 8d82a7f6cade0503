use Rattle.ss_laws.proofs.of_files.Chains.{nothing_is_missing}
use Rattle.ss_laws.proofs.files.nothing_is_missing.Goals as goal

pub returns : goal.returns
returns c = nothing_is_missing c.chains_are_one.ensures
