use Rattle.ss_laws.proofs.of_carry.NightBlocks.{all_in_range}
use Rattle.ss_laws.proofs.of_carry.AnnouncedNights.{announced_down, announced_up}
use Rattle.ss_laws.proofs.carry.announced_of_nights.Goals as goal

pub returns : goal.returns
returns c = λ says x last are leave k h.
    (let ranges = all_in_range c.blocks_are_in_range.ensures x.whole are in
    (announced_down says x ranges last leave k h, λ w. announced_up says x ranges last leave k h w.0 w.1.0 w.1.1 w.1.2))
