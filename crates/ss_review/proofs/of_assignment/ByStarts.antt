-- Lists in the order of what their items stand for. What an item begins with is compared first.
use Rattle.std.proofs.Common.{◌≡◌, ◌≢◌, inl, inr, ℕ, zero, suc, Bool, true, false, cond, List, [], ◌∷◌, length, drop, map, refl, sym, ap, ◌∙◌, subst}
use Rattle.std.specs.Prelude.{Contains}
use Rattle.std.specs.List.{take_while, dedup, AllByRecursion}
use Rattle.std.specs.declared.cmp.Ordering.{Ordering}
use Rattle.std.specs.declared.cmp.Ordering.TheVariants.{Less, Equal, Greater}
use Rattle.std.specs.Ordering.{ordering_then, eq_by_cmp}
use Rattle.std.specs.Cmp.{IsTotalOrder, Equal-is}
use Rattle.std.specs.List.Sorted.{IsPermutation, IsSorted, IsStrictlySortedBy}
use Rattle.std.proofs.lemmas.Cmp.{on_total, then_total, eq_by_cmp_equiv}
use Rattle.std.proofs.lemmas.List.Sums.{take_while-cons}
use Rattle.std.proofs.lemmas.List.Kept.{Any-dedup, Contains-from_dedup, IsStrictlySortedBy-dedup}
use Rattle.std.proofs.lemmas.List.Sorted.{Contains-permutation, IsPermutation-sym}
use Rattle.std.proofs.lemmas.Map.Lookups.{CmpEqualImpliesEq}
use Rattle.ss_review.proofs.of_lists.Rising.{all_below}
use Rattle.ss_review.proofs.of_lists.TotalOrders.{both_tie}
use Rattle.ss_octets.proofs.Members.{Has, has_from_contains, contains_from_has, has-map, from_has-map, all-has}

-- ---- a list in the order of what its items stand for

module _ {X Y : Type 0} (f : X → Y) where
  all_stand : (P : Y → Type 0) (xs : List X) → AllByRecursion (λ x. P (f x)) xs → AllByRecursion P (map f xs)
  all_stand P [] a = tt
  all_stand P (x ∷ xs) a = (a.0, all_stand P xs a.1)

  pub rise : (R : Y → Y → Ordering) (xs : List X) → IsStrictlySortedBy (λ a b. R (f a) (f b)) xs → IsStrictlySortedBy R (map f xs)
  unfolding IsStrictlySortedBy
  rise R [] up = tt
  rise R (x ∷ xs) up = (all_stand (λ y. R (f x) y ≡ Less) xs up.0, rise R xs up.1)

  -- those from the front on that pass a test, by what they stand for
  pub count_as : (p : Y → Bool) (xs : List X) → length (take_while (λ x. p (f x)) xs) ≡ length (take_while p (map f xs))
  count_as p [] = refl
  count_as p (x ∷ xs) =
      ap length (take_while-cons (λ y. p (f y)) x xs) ∙ by (p (f x)) (count_as p xs) ∙ ap length (sym (take_while-cons p (f x) (map f xs)))
    where
      by : (b : Bool) → length (take_while (λ y. p (f y)) xs) ≡ length (take_while p (map f xs)) → length (cond b (x ∷ take_while (λ y. p (f y)) xs) []) ≡ length (cond b (f x ∷ take_while p (map f xs)) [])
      by true e = ap suc e
      by false e = refl

-- as many from the front on pass one test as another that agrees with it there
module _ {X : Type 0} (p q : X → Bool) where
  pub count_agree : (xs : List X) → ((x : X) → Has xs x → p x ≡ q x) → length (take_while p xs) ≡ length (take_while q xs)
  count_agree [] a = refl
  count_agree (x ∷ xs) a =
      ap length (take_while-cons p x xs) ∙ by (p x) (q x) (a x (inl refl)) (count_agree xs (λ y h. a y (inr h))) ∙ ap length (sym (take_while-cons q x xs))
    where
      by : (b c : Bool) → b ≡ c → length (take_while p xs) ≡ length (take_while q xs) → length (cond b (x ∷ take_while p xs) []) ≡ length (cond c (x ∷ take_while q xs) [])
      by true true s e = ap suc e
      by true false s e = absurd (cc)
      by false true s e = absurd (cc)
      by false false s e = refl

pub has-drop : {X : Type 0} (n : ℕ) (xs : List X) (x : X) → Has (drop n xs) x → Has xs x
has-drop zero xs x h = h
has-drop (suc n) [] x h = h
has-drop (suc n) (y ∷ ys) x h = inr (has-drop n ys x h)

-- ---- in order by what they begin with, and then by what they stand for

module _ {X Y : Type 0} (f : X → Y) (S : X → X → Ordering) (R : Y → Y → Ordering) (Begins : X → Type 0) (starts : IsTotalOrder S) (stands : IsTotalOrder R) (exact : CmpEqualImpliesEq R)
    (tells : (a b : X) → Begins a → Begins b → (c : Ordering) → S a b ≡ c → c ≢ Equal → R (f a) (f b) ≡ c) where
  abbrev pub by_both : X → X → Ordering
  by_both a b = ordering_then (S a b) (R (f a) (f b))

  pub both_total : IsTotalOrder by_both
  both_total = then_total starts (on_total f stands)

  -- that is by what they stand for
  as_stands : (a b : X) → Begins a → Begins b → by_both a b ≡ R (f a) (f b)
  as_stands a b s t = by (S a b) refl
    where
      by : (c : Ordering) → S a b ≡ c → ordering_then c (R (f a) (f b)) ≡ R (f a) (f b)
      by Less e = sym (tells a b s t Less e (λ z. cc))
      by Equal e = refl
      by Greater e = sym (tells a b s t Greater e (λ z. cc))

  rise_as : (xs : List X) → ((x : X) → Has xs x → Begins x) → IsStrictlySortedBy by_both xs → IsStrictlySortedBy (λ a b. R (f a) (f b)) xs
  unfolding IsStrictlySortedBy
  rise_as [] begin up = tt
  rise_as (x ∷ xs) begin up = (
    all_below (λ y. R (f x) (f y) ≡ Less) xs (λ y h. sym (as_stands x y (begin x (inl refl)) (begin y (inr h))) ∙ all-has (λ z. by_both x z ≡ Less) xs y up.0 h),
    rise_as xs (λ y h. begin y (inr h)) up.1,
  )

  module _ (old sorted : List X) (moved : IsPermutation old sorted) (up : IsSorted by_both sorted) where
    abbrev kept : List X
    kept = dedup (eq_by_cmp by_both) sorted

    was_there : (x : X) → Has kept x → Contains old x
    was_there x h = Contains-permutation sorted old x (IsPermutation-sym old sorted moved) (Contains-from_dedup (eq_by_cmp by_both) sorted x (contains_from_has kept x h))

    pub kept_begin : ((x : X) → Contains old x → Begins x) → (x : X) → Contains kept x → Begins x
    kept_begin begin x here = begin x (was_there x (has_from_contains kept x here))

    pub kept_rise : ((x : X) → Contains old x → Begins x) → IsStrictlySortedBy R (map f kept)
    kept_rise begin = rise f R kept (rise_as kept (λ x h. begin x (was_there x h)) (IsStrictlySortedBy-dedup both_total (λ a b. refl) sorted up))

    pub kept_keep : (y : Y) → Contains (map f old) y → Contains (map f kept) y
    kept_keep y here =
        let w = from_has-map f old y (has_from_contains (map f old) y here) in
        let k = Any-dedup (eq_by_cmp_equiv both_total) sorted w.0 (Contains-permutation old sorted w.0 moved (contains_from_has old w.0 w.1)) in
        let tie = both_tie (S w.0 k.1) (R (f w.0) (f k.1)) ((Equal-is (by_both w.0 k.1)).0 k.4) in
        let same = exact (f w.0) (f k.1) tie.1 in
        contains_from_has (map f kept) y
        (subst (Has (map f kept)) (sym same ∙ w.2) (has-map f kept k.1 (has_from_contains kept k.1 (k.0, k.2, k.3))))

    pub kept_add_none : (y : Y) → Contains (map f kept) y → Contains (map f old) y
    kept_add_none y here =
        let w = from_has-map f kept y (has_from_contains (map f kept) y here) in
        contains_from_has (map f old) y (subst (Has (map f old)) w.2 (has-map f old w.0 (has_from_contains old w.0 (was_there w.0 w.1))))
