use Rattle.ss_laws.proofs.of_plans.cases.SavedRows.{saved_rows}
use Rattle.ss_laws.proofs.plans.cases.saved_rows_are_these.Goals as goal

pub returns : goal.returns
returns c = saved_rows
