use Rattle.std.proofs.Common.{refl, subst}
use Rattle.ss_laws.specs.carry.CarriedNights.{nights_of}
use Rattle.ss_laws.specs.carry.Reports.{IsPutTogether}
use Rattle.ss_laws.proofs.carry.each_night.carried_nights_so_far.Goals as goal

pub returns : goal.returns
returns c = λ says file log night follow agree.
    (let x = nights_of says file log in
    subst (λ r. IsPutTogether says x night r) (c.files_so_far_are_logs.ensures says x night log refl)
    (c.nights_so_far.ensures says x night (log, refl) follow ((c.nights_of_texts.ensures says file log follow).enough night) agree))
