use Rattle.ss_laws.proofs.of_strangers.PinnedReports.{every_number}
use Rattle.ss_laws.proofs.strangers.reports.every_number_is_told.Goals as goal

pub returns : goal.returns
returns c = every_number c.every_number_is_told.ensures c.pinned_reports_are_of_logs.ensures
