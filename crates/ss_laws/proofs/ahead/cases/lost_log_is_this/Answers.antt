use Rattle.ss_laws.proofs.of_ahead.cases.LostLog.{lost_log}
use Rattle.ss_laws.proofs.ahead.cases.lost_log_is_this.Goals as goal

pub returns : goal.returns
returns c =
    lost_log c.premises_ahead_are_met.ensures.ahead_is_case c.announced_are_told.ensures c.one_report.ensures c.every_number_is_told.ensures c.lost_are_reported_by_the_newest_counters.ensures
