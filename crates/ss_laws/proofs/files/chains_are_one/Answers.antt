use Rattle.ss_laws.proofs.of_files.Chains.{chains_are_one}
use Rattle.ss_laws.proofs.files.chains_are_one.Goals as goal

pub returns : goal.returns
returns c = chains_are_one c.links_are_one.ensures
