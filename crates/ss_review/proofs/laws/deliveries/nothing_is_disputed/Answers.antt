use Rattle.ss_review.proofs.of_reports.ToldNumbers.{nothing_is_disputed}
use Rattle.ss_review.proofs.laws.deliveries.nothing_is_disputed.Goals as goal

pub returns : goal.returns
returns c = nothing_is_disputed c.one_report.ensures c.announced_by_blocks.ensures
