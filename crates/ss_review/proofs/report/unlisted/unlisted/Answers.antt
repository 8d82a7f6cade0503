use Rattle.std.proofs.Common.{◌==◌, not, filter, ap, ◌∙◌}
use Rattle.std.specs.List.{list_any}
use Rattle.ss_review.specs.assign.Assigned.{is_place}
use Rattle.ss_review.proofs.of_assignment.NotTaken.{untaken}
use Rattle.ss_review.proofs.report.unlisted.unlisted.Goals as goal

pub returns : goal.returns
returns c = λ ms rs all places.
    c.from_vec.ensures
    ∙ c.in_ok-outside.ensures
    ∙ (λ i. filter (λ place. not (list_any (λ p. p == place) (c.deref.ensures.value i))) (all i))
    ∙ untaken ms rs c.in_ok-taken.taken.items (λ place. c.in_ok-taken.ensures.taken place ∙ ap (list_any (is_place place)) places)
