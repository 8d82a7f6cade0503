use Rattle.std.proofs.Common.{arith}
use Rattle.ss_laws.proofs.of_carry.NightBlocks.{all_in_range}
use Rattle.ss_laws.proofs.of_carry.AnnouncedNights.{same_joined_at, same_sessions}
use Rattle.ss_laws.proofs.carry.states_of_nights.Goals as goal

pub returns : goal.returns
returns c = λ says x last are leave.
    (let ranges = all_in_range c.blocks_are_in_range.ensures x.whole are in
    (same_sessions says x ranges last leave, λ s. same_joined_at says x ranges last leave last (omega arith) s))
