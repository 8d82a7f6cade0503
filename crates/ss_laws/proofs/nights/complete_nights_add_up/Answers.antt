use Rattle.ss_laws.proofs.of_nights.CompleteNights.{add_up}
use Rattle.ss_laws.proofs.nights.complete_nights_add_up.Goals as goal

pub returns : goal.returns
returns c = add_up c.announced_are_told.ensures c.pinned_reports_are_of_logs.ensures c.complete_nights_have_all.ensures
