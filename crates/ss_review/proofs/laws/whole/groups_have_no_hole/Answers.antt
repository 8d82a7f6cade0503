use Rattle.ss_review.proofs.of_deliveries.WholeNumbers.{groups_have_no_hole}
use Rattle.ss_review.proofs.laws.whole.groups_have_no_hole.Goals as goal

pub returns : goal.returns
returns c = groups_have_no_hole c.blocks_are_verified.ensures c.keys_have_blocks.ensures c.numbers_are_announced.ensures c.spris_are_small.ensures
