use Rattle.ss_review.proofs.of_reports.ToldNumbers.{keys_are_announced}
use Rattle.ss_review.proofs.laws.reports.keys_are_announced.Goals as goal

pub returns : goal.returns
returns c = keys_are_announced
