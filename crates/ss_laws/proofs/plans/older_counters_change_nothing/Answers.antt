use Rattle.ss_laws.proofs.of_plans.ReadBack.{older_counters_change_nothing}
use Rattle.ss_laws.proofs.plans.older_counters_change_nothing.Goals as goal

pub returns : goal.returns
returns c = older_counters_change_nothing c.ahead_is_read_among_others.ensures
