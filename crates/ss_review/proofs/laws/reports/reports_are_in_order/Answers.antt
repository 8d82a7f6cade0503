use Rattle.ss_review.specs.keep.Notes.{notes}
use Rattle.ss_review.proofs.of_reports.EntriesRise.{in_order_report}
use Rattle.ss_review.proofs.laws.reports.reports_are_in_order.Goals as goal

pub returns : goal.returns
returns c = λ says log. in_order_report says (notes log)
