use Rattle.ss_review.proofs.of_counters.CountedRange.{next_numbers_are_in_range}
use Rattle.ss_review.proofs.laws.counted.next_numbers_are_in_range.Goals as goal

pub returns : goal.returns
returns c = next_numbers_are_in_range c.blocks_are_in_range.ensures c.next_numbers_follow.ensures
