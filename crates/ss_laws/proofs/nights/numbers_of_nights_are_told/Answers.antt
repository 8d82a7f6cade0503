use Rattle.ss_laws.proofs.of_nights.NightParts.{numbers_told}
use Rattle.ss_laws.proofs.nights.numbers_of_nights_are_told.Goals as goal

pub returns : goal.returns
returns c =
    numbers_told c.every_number_is_told.ensures c.pinned_reports_are_of_logs.ensures c.nights_leave_out_the_rest.ensures
