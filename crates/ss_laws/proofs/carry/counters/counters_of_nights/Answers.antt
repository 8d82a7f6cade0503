use Rattle.ss_laws.proofs.of_carry.NightBlocks.{all_in_range}
use Rattle.ss_laws.proofs.of_carry.GreatestOfNights.{are_greatest}
use Rattle.ss_laws.proofs.carry.counters.counters_of_nights.Goals as goal

pub returns : goal.returns
returns c = λ says x last s are leave join.
    are_greatest says x (all_in_range c.blocks_are_in_range.ensures x.whole are) last s leave join
