use Rattle.ss_review.proofs.of_deliveries.CasesAhead.{nothing_ahead_is_disputed}
use Rattle.ss_review.proofs.laws.ahead.nothing_is_disputed.Goals as goal

pub returns : goal.returns
returns c = nothing_ahead_is_disputed c.one_report.ensures c.announced_by_blocks.ensures
