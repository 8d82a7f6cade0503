use Rattle.ss_review.proofs.of_deliveries.WholeMessages.{numbers_are_listed}
use Rattle.ss_review.proofs.laws.whole.numbers_are_listed.Goals as goal

pub returns : goal.returns
returns c = numbers_are_listed c.blocks_are_verified.ensures c.messages_are_stored.ensures c.keys_have_blocks.ensures c.entries_are_by_rank.ensures c.ranks_are_below_counts.ensures
