use Rattle.ss_laws.proofs.of_nights.OwnCounters.{clean_logs}
use Rattle.ss_laws.proofs.nights.clean_logs_are_clean_nights.Goals as goal

pub returns : goal.returns
returns c =
    clean_logs c.announced_are_told.ensures c.numbers_outside_are_these.ensures c.pinned_reports_are_of_logs.ensures c.announced_are_below_own_counters.ensures
