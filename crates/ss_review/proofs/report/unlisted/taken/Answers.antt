use Rattle.std.proofs.Common.{ℕ, ◌==◌, sym, ap, ◌∙◌}
use Rattle.std.specs.List.{list_any}
use Rattle.std.proofs.lemmas.List.Sorted.{IsNonDecreasingBy-from_sort, list_any-IsPermutation}
use Rattle.ss_review.proofs.of_assignment.NotTaken.{any_given}
use Rattle.ss_review.proofs.report.unlisted.taken.Goals as goal

pub returns-clause-rise : goal.returns-clause-rise
returns-clause-rise c = IsNonDecreasingBy-from_sort (λ (p : ℕ). p) c.sort_unstable.new.self.items c.sort_unstable.ensures.sorted

pub returns-clause-taken : goal.returns-clause-taken
returns-clause-taken c = λ place.
    sym (list_any-IsPermutation (λ p. p == place) c.in_ok-taken.taken.items c.sort_unstable.new.self.items c.sort_unstable.ensures.permutation)
    ∙ ap (list_any (λ p. p == place)) c.in_ok-taken.ensures
    ∙ any_given place c.args.places.now
