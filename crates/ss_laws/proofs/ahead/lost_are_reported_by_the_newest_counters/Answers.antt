use Rattle.ss_laws.proofs.of_ahead.NewestCounters.{lost_by_newest}
use Rattle.ss_laws.proofs.ahead.lost_are_reported_by_the_newest_counters.Goals as goal

pub returns : goal.returns
returns c = lost_by_newest c.faults_are_of_no_message.ensures c.counters_go_past.ensures c.lost_are_reported.ensures
