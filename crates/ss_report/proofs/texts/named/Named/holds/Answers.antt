use Rattle.std.proofs.Common.{rules, ℕ, ◌∙◌}
use Rattle.std.specs.Ordering.{nat_cmp}
use Rattle.std.proofs.lemmas.Fn.{always_returns_same}
use Rattle.std.proofs.lemmas.List.Sorted.{searched}
use Rattle.ss_review.proofs.of_assignment.NotTaken.{among_is}
use Rattle.ss_report.proofs.texts.named.Named.holds.Goals as goal

pub returns : goal.returns
returns c =
    let places = c.args.self.now in
    let place = c.args.place in
    let position = rw (c.as_slice.ensures.value, c.self.view_is) at (c.binary_search_by.ensures.position (λ (p : ℕ). nat_cmp p place) (always_returns_same _ _ _ (λ a r q k. search rules))) in
    let rise = rw c.self.view_is at c.self.invariant in
    c.is_ok.ensures.value ∙ among_is places place c.binary_search_by.result (searched places place c.binary_search_by.result position (λ i j le below. rise i j 0 le below))
