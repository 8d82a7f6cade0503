use Rattle.ss_review.proofs.of_counters.CountedMeant.{next_gbc_follows}
use Rattle.ss_review.proofs.laws.counted.next_gbc_follows.Goals as goal

pub returns : goal.returns
returns c = next_gbc_follows
