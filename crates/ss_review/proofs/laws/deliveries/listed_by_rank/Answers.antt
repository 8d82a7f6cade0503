use Rattle.ss_review.proofs.of_reports.ToldNumbers.{listed_by_rank}
use Rattle.ss_review.proofs.laws.deliveries.listed_by_rank.Goals as goal

pub returns : goal.returns
returns c = listed_by_rank c.entries_are_by_rank.ensures c.listed_are_assigned.ensures c.announced_are_told.ensures c.keys_are_announced.ensures
