use Rattle.ss_laws.proofs.of_strangers.cases.SmallUntrusted.{small_untrusted}
use Rattle.ss_laws.proofs.strangers.cases.small_untrusted_is_this.Goals as goal

pub returns : goal.returns
returns c =
    small_untrusted c.readings_are_of_values.ensures c.signatures_are_read.ensures c.certificates_are_read.ensures
    c.premises_are_met.ensures c.lost_log_is_this.ensures
