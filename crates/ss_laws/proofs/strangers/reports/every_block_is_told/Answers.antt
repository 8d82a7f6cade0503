use Rattle.ss_laws.proofs.of_strangers.PinnedReports.{every_block}
use Rattle.ss_laws.proofs.strangers.reports.every_block_is_told.Goals as goal

pub returns : goal.returns
returns c = every_block c.every_block_is_told.ensures c.pinned_reports_are_of_logs.ensures
