use Rattle.ss_laws.proofs.of_plans.cases.SmallPlan.{small_plan}
use Rattle.ss_laws.proofs.plans.cases.small_plan_is_this.Goals as goal

pub returns : goal.returns
returns c =
    small_plan c.premises_are_met.ensures.whole_is_case c.units_are_read.ensures c.counters_stay_in_range.ensures c.ahead_is_read_among_others.ensures c.older_counters_change_nothing.ensures
