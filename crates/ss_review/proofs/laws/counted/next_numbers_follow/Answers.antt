use Rattle.ss_review.proofs.of_counters.CountedMeant.{next_numbers_follow}
use Rattle.ss_review.proofs.laws.counted.next_numbers_follow.Goals as goal

pub returns : goal.returns
returns c = next_numbers_follow c.announced_are_told.ensures c.reports_are_in_order.ensures
