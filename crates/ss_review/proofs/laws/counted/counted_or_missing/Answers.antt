use Rattle.ss_review.proofs.of_counters.CountedMeant.{counted_or_missing}
use Rattle.ss_review.proofs.laws.counted.counted_or_missing.Goals as goal

pub returns : goal.returns
returns c = counted_or_missing
