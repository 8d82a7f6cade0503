use Rattle.ss_laws.proofs.of_runs.SignedOnce.{runs_sign_once}
use Rattle.ss_laws.proofs.of_runs.cases.SmallRun.{small_run_is}
use Rattle.ss_laws.specs.runs.cases.SmallRun.{gives_mark, lists_mark}
use Rattle.ss_laws.proofs.runs.cases.small_run_is_this.Goals as goal

pub returns : goal.returns
returns c = small_run_is c.premises_ahead_are_met.ensures.ahead_is_case.chain (runs_sign_once gives_mark lists_mark c.faults_are_of_no_message.ensures)
