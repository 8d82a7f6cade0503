use Rattle.ss_laws.proofs.of_nights.cases.SmallWholeNights.{premises}
use Rattle.ss_laws.proofs.nights.cases.premises_are_met.Goals as goal

pub returns : goal.returns
returns c =
    premises c.readings_are_of_values.ensures c.signatures_are_read.ensures c.certificates_are_read.ensures c.small_night_is_clean.ensures
