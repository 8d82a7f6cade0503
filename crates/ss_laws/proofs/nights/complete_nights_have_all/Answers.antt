use Rattle.ss_laws.proofs.of_nights.CompleteNights.{have_all}
use Rattle.ss_laws.proofs.nights.complete_nights_have_all.Goals as goal

pub returns : goal.returns
returns c =
    have_all c.announced_are_told.ensures c.nights_leave_out_the_rest.ensures c.numbers_of_nights_are_told.ensures c.blocks_of_nights_are_told.ensures c.numbers_outside_are_these.ensures c.pinned_reports_are_of_logs.ensures
