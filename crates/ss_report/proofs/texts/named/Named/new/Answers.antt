use Rattle.std.proofs.Common.{ℕ, ◌==◌, sym, ap, ◌∙◌}
use Rattle.std.specs.List.{list_any}
use Rattle.std.proofs.lemmas.List.Sorted.{IsNonDecreasingBy-from_sort, list_any-IsPermutation}
use Rattle.ss_report.proofs.texts.named.Named.new.Goals as goal

pub invariant_of-result : goal.invariant_of-result
invariant_of-result c = IsNonDecreasingBy-from_sort (λ (p : ℕ). p) c.sort_unstable.new.self.items c.sort_unstable.ensures.sorted

pub returns : goal.returns
returns c = λ i place.
    (sym (list_any-IsPermutation (λ p. p == place) c.into_vec-places.result.items c.sort_unstable.new.self.items c.sort_unstable.ensures.permutation)
    ∙ ap (list_any (λ p. p == place)) c.into_vec-places.ensures) i
