use Rattle.ss_laws.proofs.of_nights.NightOutside.{numbers_outside}
use Rattle.ss_laws.proofs.nights.numbers_outside_are_these.Goals as goal

pub returns : goal.returns
returns c = numbers_outside c.reports_are_in_order.ensures c.pinned_reports_are_of_logs.ensures
