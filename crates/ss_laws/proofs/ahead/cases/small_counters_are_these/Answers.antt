use Rattle.ss_laws.proofs.of_ahead.cases.SmallCounters.{small_counters_are}
use Rattle.ss_laws.proofs.ahead.cases.small_counters_are_these.Goals as goal

pub returns : goal.returns
returns c = small_counters_are c.premises_are_met.ensures c.whole_logs_give_the_last_counters.ensures
