use Rattle.ss_review.proofs.of_counters.CountedRange.{counted_are_in_range}
use Rattle.ss_review.proofs.laws.counted.counted_are_in_range.Goals as goal

pub returns : goal.returns
returns c = counted_are_in_range c.blocks_are_in_range.ensures
