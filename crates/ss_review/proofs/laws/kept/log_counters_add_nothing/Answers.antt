use Rattle.ss_review.proofs.of_counters.CountersGiven.{log_counters_add_nothing}
use Rattle.ss_review.proofs.laws.kept.log_counters_add_nothing.Goals as goal

pub returns : goal.returns
returns c = log_counters_add_nothing
