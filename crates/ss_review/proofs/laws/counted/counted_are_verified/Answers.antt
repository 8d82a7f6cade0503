use Rattle.ss_review.proofs.of_counters.CountedMeant.{counted_are_verified}
use Rattle.ss_review.proofs.laws.counted.counted_are_verified.Goals as goal

pub returns : goal.returns
returns c = counted_are_verified
