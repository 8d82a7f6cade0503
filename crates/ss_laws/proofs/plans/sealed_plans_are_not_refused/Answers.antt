use Rattle.ss_laws.proofs.of_plans.SealedPlans.{refuses_no_seal_of_plans}
use Rattle.ss_laws.proofs.plans.sealed_plans_are_not_refused.Goals as goal

pub returns : goal.returns
returns g c = λ sealer. refuses_no_seal_of_plans c.one_reading.ensures (g.J.Seals.answers sealer)
