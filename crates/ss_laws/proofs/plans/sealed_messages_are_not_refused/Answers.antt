use Rattle.ss_laws.proofs.of_plans.SealedPlans.{refuses_no_seal_of_messages}
use Rattle.ss_laws.proofs.plans.sealed_messages_are_not_refused.Goals as goal

pub returns : goal.returns
returns g c = λ sealer. refuses_no_seal_of_messages (g.J.Seals.answers sealer)
