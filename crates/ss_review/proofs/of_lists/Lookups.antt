-- What a binary search finds in a list whose keys rise.
use Rattle.std.proofs.Common.{◌≡◌, inl, inr, ℕ, zero, suc, ◌<◌, Bool, false, cond, List, [], ◌∷◌, length, get_or, map, filter, refl, sym, ap, ◌∙◌, subst, add-one, arith}
use Rattle.std.specs.Prelude.{◌||◌}
use Rattle.std.specs.declared.cmp.Ordering.{Ordering}
use Rattle.std.specs.declared.cmp.Ordering.TheVariants.{Less, Equal, Greater}
use Rattle.std.specs.Ordering.{is_eq, is_lt, ordering_index, ordering_reverse}
use Rattle.std.specs.Cmp.{IsTotalOrder}
use Rattle.std.specs.List.{Contains, list_any}
use Rattle.std.specs.List.Sorted.{IsStrictlySortedBy, IsNonDecreasingBy, IsPartitionPoint}
use Rattle.std.proofs.lemmas.Bool.{cases_lt}
use Rattle.std.proofs.lemmas.List.{get_or_default}
use Rattle.std.proofs.lemmas.List.Sorted.{searchable_from_sorted}
use Rattle.std.proofs.lemmas.Map.Lookups.{CmpEqualImpliesEq}
use Rattle.ss_octets.proofs.Members.{Has, has-map, has_from_contains, contains_from_has, all-has}
use Rattle.ss_review.proofs.of_lists.Rising.{all_below}
use Rattle.ss_review.proofs.of_lists.Sections.{keeps_none}

-- ---- none passes

pub any_none : {X : Type 0} (p : X → Bool) (xs : List X) → ((x : X) → Has xs x → p x ≡ false) → list_any p xs ≡ false
any_none p [] none = refl
any_none p (y ∷ ys) none = ap (λ b. b || list_any p ys) (none y (inl refl)) ∙ any_none p ys (λ x h. none x (inr h))

module _ {K : Type 0} {R : K → K → Ordering} (o : IsTotalOrder R) (exact : CmpEqualImpliesEq R) {X : Type 0} (key : X → K) where
  sorted_at : (xs : List X) → IsStrictlySortedBy R (map key xs) → (k : ℕ) (d : X) → suc k < length xs → is_lt (R (key (get_or xs (suc k) d)) (key (get_or xs k d))) ≡ false
  unfolding IsStrictlySortedBy
  sorted_at [] up k d below = absurd (omega (arith, below))
  sorted_at (x ∷ []) up k d below = absurd (omega (arith, below))
  sorted_at (x ∷ y ∷ ys) up zero d below = ap is_lt (o.antisymm (key y) (key x) ∙ ap ordering_reverse up.0.0)
  sorted_at (x ∷ y ∷ ys) up (suc k) d below = sorted_at (y ∷ ys) up.1 k d (omega (arith, below))

  pub searchable : (k : K) (xs : List X) → IsStrictlySortedBy R (map key xs) → IsNonDecreasingBy (λ y. ordering_index (R (key y) k)) xs
  searchable k xs up = searchable_from_sorted o key xs k (λ i d from below. rw add-one (sorted_at xs up i d (omega (arith, below))))

  -- ---- it is there

  less_differs : (a k : K) → R a k ≡ Less → is_eq (R a k) ≡ false
  less_differs a k e = ap is_eq e

  more_differs : (a k : K) → R k a ≡ Less → is_eq (R a k) ≡ false
  more_differs a k e = ap is_eq (o.antisymm a k ∙ ap ordering_reverse e)

  pub found_alone : (k : K) (xs : List X) (i : ℕ) (d : X) → IsStrictlySortedBy R (map key xs) → i < length xs → R (key (get_or xs i d)) k ≡ Equal → filter (λ x. is_eq (R (key x) k)) xs ≡ get_or xs i d ∷ []
  unfolding IsStrictlySortedBy
  found_alone k [] i d up below tie = absurd (omega (arith, below))
  found_alone k (x ∷ xs) zero d up below tie =
      let here : key x ≡ k = exact (key x) k tie in
      let none : filter (λ y. is_eq (R (key y) k)) xs ≡ []
      = keeps_none (λ y. is_eq (R (key y) k)) xs (all_below (λ y. is_eq (R (key y) k) ≡ false) xs (λ y h.
      more_differs (key y) k (subst (λ q. R q (key y) ≡ Less) here (all-has (λ q. R (key x) q ≡ Less) (map key xs) (key y) up.0 (has-map key xs y h))))) in
      ap (λ b. cond b (x ∷ filter (λ y. is_eq (R (key y) k)) xs) (filter (λ y. is_eq (R (key y) k)) xs)) (ap is_eq tie)
      ∙ ap (λ ys. x ∷ ys) none
  found_alone k (x ∷ xs) (suc i) d up below tie =
      let at = get_or xs i d in
      let there : key at ≡ k = exact (key at) k tie in
      let has : Has xs at = has_from_contains xs at (i, omega (arith, below), get_or_default xs i at d (omega (arith, below))) in
      let less : R (key x) k ≡ Less = subst (λ q. R (key x) q ≡ Less) there (all-has (λ q. R (key x) q ≡ Less) (map key xs) (key at) up.0 (has-map key xs at has)) in
      ap (λ b. cond b (x ∷ filter (λ y. is_eq (R (key y) k)) xs) (filter (λ y. is_eq (R (key y) k)) xs)) (less_differs (key x) k less)
      ∙ found_alone k xs i d up.1 (omega (arith, below)) tie

  -- ---- it isn't

  pub found_nowhere : (k : K) (xs : List X) (i : ℕ) → IsStrictlySortedBy R (map key xs)
      → (IsNonDecreasingBy (λ x. ordering_index (R (key x) k)) xs → IsPartitionPoint (λ x. R (key x) k ≡ Less) (λ x. R (key x) k ≡ Greater) xs i)
      → (x : X) → Has xs x → is_eq (R (key x) k) ≡ false
  found_nowhere k xs i up parted x h =
      let apart = parted (searchable k xs up) in
      let at : Contains xs x = contains_from_has xs x h in
      ap (λ y. is_eq (R (key y) k)) (sym at.2)
      ∙ (elim (cases_lt at.0 i) [
        | inl below ↦ ap is_eq (apart.0 at.0 x (omega arith) below)
        | inr above ↦ ap is_eq (apart.1 at.0 x above at.1)
      ])
