use Rattle.ss_origin.proofs.CountersInRange.{counters_stay_in_range}
use Rattle.ss_origin.proofs.laws.chains.counters_stay_in_range.Goals as goal

pub returns : goal.returns
returns c = counters_stay_in_range c.faults_are_of_no_message.ensures
