use Rattle.ss_origin.proofs.GivenNumbers.{counters_go_past}
use Rattle.ss_origin.proofs.laws.ahead.counters_go_past.Goals as goal

pub returns : goal.returns
returns c = counters_go_past c.faults_are_of_no_message.ensures
