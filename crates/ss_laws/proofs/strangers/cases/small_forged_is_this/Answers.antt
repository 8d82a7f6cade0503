use Rattle.ss_laws.proofs.of_strangers.cases.SmallForged.{small_forged}
use Rattle.ss_laws.proofs.strangers.cases.small_forged_is_this.Goals as goal

pub returns : goal.returns
returns c =
    small_forged c.readings_are_of_values.ensures c.signatures_are_read.ensures c.certificates_are_read.ensures
    c.premises_are_met.ensures
