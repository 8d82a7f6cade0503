use Rattle.std.proofs.Common.{◌∙◌}
use Rattle.std.proofs.lemmas.List.Sorted.{searched}
use Rattle.std.proofs.lemmas.Map.Keys.{non_decreasing_from_sorted}
use Rattle.ss_review.proofs.of_assignment.NotTaken.{among_is}
use Rattle.ss_report.proofs.runs.lookups.is_refused.Goals as goal

pub returns : goal.returns
returns c =
    let refused = c.args.report.now.refused in
    let rise = non_decreasing_from_sorted refused c.requires.refused in
    c.is_ok.ensures.value
    ∙ among_is refused c.args.place c.binary_search.result
    (searched refused c.args.place c.binary_search.result (rw c.as_slice.ensures at c.binary_search.ensures.position) (λ i j le below. rise i j 0 le below))
