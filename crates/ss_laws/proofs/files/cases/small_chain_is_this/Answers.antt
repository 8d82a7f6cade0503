use Rattle.ss_laws.proofs.of_files.cases.SmallChain.{small_chain}
use Rattle.ss_laws.proofs.files.cases.small_chain_is_this.Goals as goal

pub returns : goal.returns
returns c =
    small_chain c.readings_are_of_values.ensures c.signatures_are_read.ensures c.certificates_are_read.ensures c.units_are_read.ensures
