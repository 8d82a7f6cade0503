use Rattle.ss_laws.proofs.of_plans.GivenSeals.{plans_with_seals_are_not_refused}
use Rattle.ss_laws.proofs.plans.plans_with_seals_are_not_refused.Goals as goal

pub returns : goal.returns
returns c = plans_with_seals_are_not_refused c.one_reading.ensures
