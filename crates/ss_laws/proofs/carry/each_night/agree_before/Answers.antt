use Rattle.ss_laws.proofs.of_carry.NightBlocks.{all_in_range}
use Rattle.ss_laws.proofs.of_carry.PremisesBefore.{agree_before}
use Rattle.ss_laws.proofs.carry.each_night.agree_before.Goals as goal

pub returns : goal.returns
returns c = λ says x last are leave agree night low.
    agree_before says x (all_in_range c.blocks_are_in_range.ensures x.whole are) last leave agree night low
