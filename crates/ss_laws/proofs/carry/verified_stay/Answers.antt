use Rattle.ss_laws.proofs.of_carry.NightBlocks.{all_in_range}
use Rattle.ss_laws.proofs.of_carry.AnnouncedNights.{stays_verified}
use Rattle.ss_laws.proofs.carry.verified_stay.Goals as goal

pub returns : goal.returns
returns c = λ says x last are leave night later b low high here there v j.
    stays_verified says x (all_in_range c.blocks_are_in_range.ensures x.whole are) last leave night later low high b v j
