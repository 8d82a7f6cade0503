use Rattle.ss_laws.proofs.of_plans.ReadBack.{runs_ahead_are_read_back}
use Rattle.ss_laws.proofs.plans.runs_ahead_are_read_back.Goals as goal

pub returns : goal.returns
returns c = runs_ahead_are_read_back c.counters_stay_in_range.ensures c.ahead_is_read_back.ensures
