use Rattle.ss_laws.proofs.of_nights.IdleNights.{idle_nights}
use Rattle.ss_laws.proofs.nights.idle_nights_are_clean.Goals as goal

pub returns : goal.returns
returns c = idle_nights
