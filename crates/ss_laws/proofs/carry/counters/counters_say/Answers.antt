use Rattle.ss_laws.proofs.of_carry.CountersSaid.{blocks_follow, numbers_follow}
use Rattle.ss_laws.proofs.carry.counters.counters_say.Goals as goal

pub returns : goal.returns
returns c = λ says log s. (blocks_follow says log s, λ g. numbers_follow says log s g)
