use Rattle.ss_laws.proofs.of_plans.ReadBack.{ahead_is_read_back}
use Rattle.ss_laws.proofs.plans.ahead_is_read_back.Goals as goal

pub returns : goal.returns
returns c = ahead_is_read_back c.ahead_is_read_among_others.ensures c.older_counters_change_nothing.ensures
