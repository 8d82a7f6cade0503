use Rattle.ss_laws.proofs.of_files.Chains.{files_before_are_one}
use Rattle.ss_laws.proofs.files.files_before_are_one.Goals as goal

pub returns : goal.returns
returns c = files_before_are_one c.links_are_one.ensures
