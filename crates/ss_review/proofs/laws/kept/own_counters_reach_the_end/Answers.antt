use Rattle.ss_review.proofs.of_counters.LostTold.{reach_the_end}
use Rattle.ss_review.proofs.laws.kept.own_counters_reach_the_end.Goals as goal

pub returns : goal.returns
returns c = reach_the_end c.numbers_go_on.ensures
