-- Lists whose keys rise, and their elements by index.
use Rattle.std.proofs.Common.{◌≡◌, inl, inr, ℕ, zero, suc, ◌<◌, Bool, true, false, cond, List, [], ◌∷◌, map, filter, refl, sym, ap, ◌∙◌, subst}
use Rattle.std.specs.Prelude.{Some, slice_get}
use Rattle.std.specs.declared.cmp.Ordering.{Ordering}
use Rattle.std.specs.declared.cmp.Ordering.TheVariants.{Less}
use Rattle.std.specs.Ordering.{nat_cmp}
use Rattle.std.specs.Cmp.{IsTotalOrder, nat_cmp_is, ranked}
use Rattle.std.specs.List.{AllByRecursion}
use Rattle.std.specs.List.Sorted.{IsStrictlySortedBy}
use Rattle.std.proofs.lemmas.Map.Lookups.{CmpEqualImpliesEq}
use Rattle.ss_octets.proofs.Members.{Has, has-map, from_has-map, from_has-filter, all-has}
use Rattle.ss_review.proofs.of_lists.Rising.{all_below, not_less_itself}

-- ---- numbers

pub less : (a b : ℕ) → a < b → nat_cmp a b ≡ Less
less a b l = sym (nat_cmp_is a b Less l)

pub from_less : (a b : ℕ) → nat_cmp a b ≡ Less → a < b
from_less a b e = ranked a b Less (sym e)

-- ---- elements by index

pub has-slice_get : {X : Type 0} (xs : List X) (i : ℕ) (x : X) → slice_get xs i ≡ Some x → Has xs x
has-slice_get [] i x e = absurd (cc)
has-slice_get (y ∷ ys) zero x e = inl (cc)
has-slice_get (y ∷ ys) (suc i) x e = inr (has-slice_get ys i x e)

pub slice_get-has : {X : Type 0} (xs : List X) (x : X) → Has xs x → (i : ℕ) × (slice_get xs i ≡ Some x)
slice_get-has [] x h = absurd h
slice_get-has (y ∷ ys) x (inl e) = (0, ap (λ z. Some z) e)
slice_get-has {X} (y ∷ ys) x (inr h) =
    let w : (i : ℕ) × (slice_get ys i ≡ Some x) = slice_get-has ys x h in
    (suc w.0, w.1)

module _ {K : Type 0} {R : K → K → Ordering} (o : IsTotalOrder R) (exact : CmpEqualImpliesEq R) where
  -- an element of a list that rises stands at one index
  pub one_index : (xs : List K) → IsStrictlySortedBy R xs → (i j : ℕ) (x : K) → slice_get xs i ≡ Some x → slice_get xs j ≡ Some x → i ≡ j
  unfolding IsStrictlySortedBy
  one_index [] up i j x e f = absurd (cc)
  one_index (y ∷ ys) up zero zero x e f = refl
  one_index (y ∷ ys) up zero (suc j) x e f =
      let here : y ≡ x = cc in
      absurd (not_less_itself o x (subst (λ z. R z x ≡ Less) here (all-has (λ z. R y z ≡ Less) ys x up.0 (has-slice_get ys j x f))))
  one_index (y ∷ ys) up (suc i) zero x e f =
      let here : y ≡ x = cc in
      absurd (not_less_itself o x (subst (λ z. R z x ≡ Less) here (all-has (λ z. R y z ≡ Less) ys x up.0 (has-slice_get ys i x e))))
  one_index (y ∷ ys) up (suc i) (suc j) x e f = ap suc (one_index ys up.1 i j x e f)

  -- elements with one key are one
  pub one_of_key : {X : Type 0} (key : X → K) (xs : List X) → IsStrictlySortedBy R (map key xs) → (x y : X) → Has xs x → Has xs y → key x ≡ key y → x ≡ y
  unfolding IsStrictlySortedBy
  one_of_key key [] up x y h i e = absurd h
  one_of_key key (z ∷ zs) up x y (inl p) (inl q) e = sym p ∙ q
  one_of_key key (z ∷ zs) up x y (inl p) (inr i) e =
      absurd (not_less_itself o (key y) (subst (λ k. R k (key y) ≡ Less) (ap key p ∙ e) (all-has (λ k. R (key z) k ≡ Less) (map key zs) (key y) up.0 (has-map key zs y i))))
  one_of_key key (z ∷ zs) up x y (inr h) (inl q) e =
      absurd (not_less_itself o (key x) (subst (λ k. R k (key x) ≡ Less) (ap key q ∙ sym e) (all-has (λ k. R (key z) k ≡ Less) (map key zs) (key x) up.0 (has-map key zs x h))))
  one_of_key key (z ∷ zs) up x y (inr h) (inr i) e = one_of_key key zs up.1 x y h i e

-- ---- what is left of it rises

module _ {X K : Type 0} (key : X → K) (R : K → K → Ordering) (p : X → Bool) where
  rises_at : (b : Bool) (x : X) (ys : List X) → AllByRecursion (λ k. R (key x) k ≡ Less) (map key ys) → IsStrictlySortedBy R (map key ys) → IsStrictlySortedBy R (map key (cond b (x ∷ ys) ys))
  unfolding IsStrictlySortedBy
  rises_at true x ys a up = (a, up)
  rises_at false x ys a up = up

  pub keys_rise-filter : (xs : List X) → IsStrictlySortedBy R (map key xs) → IsStrictlySortedBy R (map key (filter p xs))
  unfolding IsStrictlySortedBy
  keys_rise-filter [] up = tt
  keys_rise-filter (x ∷ xs) up =
      rises_at (p x) x (filter p xs)
      (all_below (λ k. R (key x) k ≡ Less) (map key (filter p xs)) (λ k h.
      (let w = from_has-map key (filter p xs) k h in
      subst (λ q. R (key x) q ≡ Less) w.2 (all-has (λ q. R (key x) q ≡ Less) (map key xs) (key w.0) up.0 (has-map key xs w.0 (from_has-filter p xs w.0 w.1).0)))))
      (keys_rise-filter xs up.1)
