use Rattle.ss_review.proofs.of_counters.CountersGiven.{counters_given_back}
use Rattle.ss_review.proofs.laws.kept.counters_given_back.Goals as goal

pub returns : goal.returns
returns c = counters_given_back
