use Rattle.std.proofs.lemmas.List.Sorted.{searched}
use Rattle.ss_review.proofs.of_assignment.NotTaken.{among_is}
use Rattle.ss_review.proofs.report.unlisted.search.Goals as goal

pub returns : goal.returns
returns c =
    among_is c.args.places.now c.args.place c.binary_search.result
    (searched c.args.places.now c.args.place c.binary_search.result c.binary_search.ensures.position (λ i j le below. c.requires i j 0 le below))
