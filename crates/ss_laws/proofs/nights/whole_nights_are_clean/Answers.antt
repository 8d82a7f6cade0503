use Rattle.ss_laws.proofs.of_nights.WholeNights.{whole_clean}
use Rattle.ss_laws.proofs.nights.whole_nights_are_clean.Goals as goal

pub returns : goal.returns
returns c =
    whole_clean c.announced_are_told.ensures c.listed_are_assigned.ensures c.one_report.ensures c.blocks_are_in_range.ensures c.nights_leave_out_the_rest.ensures c.missing_is_reported_once.ensures c.complete_nights_have_all.ensures c.numbers_outside_are_these.ensures
