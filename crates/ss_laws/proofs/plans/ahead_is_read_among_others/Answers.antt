use Rattle.ss_laws.proofs.of_plans.ReadBack.{ahead_is_read_among_others}
use Rattle.ss_laws.proofs.plans.ahead_is_read_among_others.Goals as goal

pub returns : goal.returns
returns c = ahead_is_read_among_others c.parts_have_their_counters.ensures
