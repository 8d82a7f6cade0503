use Rattle.ss_laws.proofs.of_runs.OnceAhead.{runs_ahead_sign_once}
use Rattle.ss_laws.proofs.runs.runs_ahead_sign_once.Goals as goal

pub returns : goal.returns
returns g c = runs_ahead_sign_once g.J.Seals.answers g.J.Seals.asked c.faults_are_of_no_message.ensures
