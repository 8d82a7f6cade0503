use Rattle.ss_review.proofs.of_pinned.InOrder.{in_order}
use Rattle.ss_review.proofs.laws.pinned.pinned_reports_are_in_order.Goals as goal

pub returns : goal.returns
returns c = in_order c.pinned_reports_are_of_logs.ensures c.reports_are_in_order.ensures
