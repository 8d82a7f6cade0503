use Rattle.ss_review.specs.keep.Notes.{notes}
use Rattle.ss_review.proofs.of_assignment.Dues.{assigned_due, due_assigned}
use Rattle.ss_review.proofs.laws.reports.assigned_where_due.Goals as goal

pub returns : goal.returns
returns c = λ says log k place. (assigned_due says (notes log) k place, due_assigned says (notes log) k place)
