use Rattle.std.proofs.Common.{◌≡◌, Bool, true, List, sym, ◌∙◌}
use Rattle.std.specs.declared.cmp.Ordering.{Ordering}
use Rattle.std.specs.declared.cmp.Ordering.TheVariants.{Equal}
use Rattle.std.specs.Ordering.{is_eq}
use Rattle.std.specs.Cmp.{Equal-is}
use Rattle.std.specs.List.{Any}
use Rattle.std.proofs.lemmas.List.Filters.{dedup_is}
use Rattle.std.proofs.lemmas.List.Kept.{Any-dedup, Contains-from_dedup, IsStrictlySortedBy-dedup}
use Rattle.std.proofs.lemmas.List.Sorted.{Contains-permutation, IsPermutation-sym}
use Rattle.ss_review.proofs.lists.ordered.put_in_order.Goals as goal

-- what is equal to an element ties with it
any_tie : {X : Type 0} (R : X → X → Ordering) (E : X → X → Bool) → ((x y : X) → E x y ≡ is_eq (R x y)) → (x : X) (ys : List X) → Any (λ y. E x y ≡ true) ys → Any (λ y. R x y ≡ Equal) ys
any_tie R E ties x ys w = (w.0, w.1, w.2, w.3, (Equal-is (R x w.1)).0 (sym (ties x w.1) ∙ w.4))

pub returns : goal.returns
returns g c =
    let is = dedup_is _ _ _ c.dedup.ensures.filtered in
    let moved = c.sort_unstable.ensures.permutation in
    record {
      rises = rw is (IsStrictlySortedBy-dedup g.met.T.Ord.total g.met.T.Ord.matches_eq _ c.sort_unstable.ensures.sorted);
      keeps = λ x h. rw is (any_tie g.T.Ord.cmp _ g.met.T.Ord.matches_eq x _ (Any-dedup g.met.T.Eq.laws _ x (Contains-permutation _ _ x moved h)));
      adds_none = λ x h. Contains-permutation _ _ x (IsPermutation-sym _ _ moved) (Contains-from_dedup _ _ x (rw is at h));
    }
