use Rattle.ss_signing.proofs.Plans.{plans_tell_what_is_signed}
use Rattle.ss_signing.proofs.laws.plans_tell_what_is_signed.Goals as goal

pub returns : goal.returns
returns c = plans_tell_what_is_signed
