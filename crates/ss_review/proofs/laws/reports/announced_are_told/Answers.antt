use Rattle.ss_review.proofs.of_reports.ToldNumbers.{announced_are_told}
use Rattle.ss_review.proofs.laws.reports.announced_are_told.Goals as goal

pub returns : goal.returns
returns c = announced_are_told c.listed_are_assigned.ensures c.gaps_are_unassigned.ensures
