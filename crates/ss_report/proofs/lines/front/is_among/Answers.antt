use Rattle.std.proofs.Common.{◌∙◌}
use Rattle.std.proofs.lemmas.List.Sorted.{searched}
use Rattle.std.proofs.lemmas.Map.Keys.{non_decreasing_from_sorted}
use Rattle.ss_review.proofs.of_assignment.NotTaken.{among_is}
use Rattle.ss_report.proofs.lines.front.is_among.Goals as goal

pub returns : goal.returns
returns c = λ up.
    let places = c.args.places.now in
    let rise = non_decreasing_from_sorted places up in
    c.is_ok.ensures.value
    ∙ among_is places c.args.place c.binary_search.result
    (searched places c.args.place c.binary_search.result c.binary_search.ensures.position (λ i j le below. rise i j 0 le below))
