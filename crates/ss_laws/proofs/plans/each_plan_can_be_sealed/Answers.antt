use Rattle.ss_laws.proofs.of_plans.WantedMembers.{each_plan_can_be_sealed}
use Rattle.ss_laws.proofs.plans.each_plan_can_be_sealed.Goals as goal

pub returns : goal.returns
returns c = each_plan_can_be_sealed
