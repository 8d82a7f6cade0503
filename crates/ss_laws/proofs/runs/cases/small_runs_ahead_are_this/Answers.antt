use Rattle.ss_laws.proofs.of_runs.cases.SmallRunsAhead.{small_runs_are}
use Rattle.ss_laws.proofs.runs.cases.small_runs_ahead_are_this.Goals as goal

pub returns : goal.returns
returns c =
    small_runs_are c.premises_ahead_are_met.ensures.ahead_is_case.chain c.one_reading.ensures c.readings_are_of_values.ensures c.signatures_are_read.ensures
