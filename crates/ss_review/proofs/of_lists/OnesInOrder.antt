-- A list in the order of a key that no two of its elements share.
use Rattle.std.proofs.Common.{◌≡◌, ◌⊎◌, inl, inr, List, [], ◌∷◌, map, fold, refl, sym, ap, ◌∙◌, subst}
use Rattle.std.specs.declared.cmp.Ordering.{Ordering}
use Rattle.std.specs.declared.cmp.Ordering.TheVariants.{Less, Equal, Greater}
use Rattle.std.specs.Ordering.{match_ordering, ordering_reverse}
use Rattle.std.specs.Cmp.{IsTotalOrder}
use Rattle.std.specs.List.{AllByRecursion}
use Rattle.std.specs.List.Sorted.{IsStrictlySortedBy}
use Rattle.ss_review.specs.Ordered.{with_member, in_order}
use Rattle.ss_octets.proofs.Members.{Has, all-has}
use Rattle.ss_review.proofs.of_lists.Rising.{all_below, reversed, same_members}

module _ {K : Type 0} {R : K → K → Ordering} (o : IsTotalOrder R) where
  -- elements of a list that rises which tie are one
  pub one_tied : (xs : List K) → IsStrictlySortedBy R xs → (x y : K) → Has xs x → Has xs y → R x y ≡ Equal → x ≡ y
  unfolding IsStrictlySortedBy
  one_tied [] up x y h i e = absurd h
  one_tied (z ∷ zs) up x y (inl p) (inl q) e = sym p ∙ q
  one_tied (z ∷ zs) up x y (inl p) (inr i) e =
      let less : R x y ≡ Less = ap (λ w. R w y) (sym p) ∙ all-has (λ w. R z w ≡ Less) zs y up.0 i in absurd (cc)
  one_tied (z ∷ zs) up x y (inr h) (inl q) e =
      let less : R y x ≡ Less = ap (λ w. R w x) (sym q) ∙ all-has (λ w. R z w ≡ Less) zs x up.0 h in
      let more : R y x ≡ Equal = o.antisymm y x ∙ ap ordering_reverse e in absurd (cc)
  one_tied (z ∷ zs) up x y (inr h) (inr i) e = one_tied zs up.1 x y h i e

  -- ---- one more member

  has_at : (c : Ordering) (k q x : K) (xs ws : List K) → (Has ws q → (k ≡ q) ⊎ Has xs q) → Has (match_ordering c (k ∷ x ∷ xs) (x ∷ xs) (x ∷ ws)) q → (k ≡ q) ⊎ Has (x ∷ xs) q
  has_at Less k q x xs ws f h = h
  has_at Equal k q x xs ws f h = inr h
  has_at Greater k q x xs ws f (inl e) = inr (inl e)
  has_at Greater k q x xs ws f (inr h) = elim (f h) [ inl e ↦ inl e | inr i ↦ inr (inr i) ]

  from_has-with_member : (k q : K) (xs : List K) → Has (with_member R k xs) q → (k ≡ q) ⊎ Has xs q
  from_has-with_member k q [] h = h
  from_has-with_member k q (x ∷ xs) h = has_at (R k x) k q x xs (with_member R k xs) (from_has-with_member k q xs) h

  still_at : (c : Ordering) (k q x : K) (xs ws : List K) → (c ≡ Equal → k ≡ x) → ((k ≡ q) ⊎ Has xs q → Has ws q) → (k ≡ q) ⊎ Has (x ∷ xs) q → Has (match_ordering c (k ∷ x ∷ xs) (x ∷ xs) (x ∷ ws)) q
  still_at Less k q x xs ws t f h = h
  still_at Equal k q x xs ws t f (inl e) = inl (sym (t refl) ∙ e)
  still_at Equal k q x xs ws t f (inr h) = h
  still_at Greater k q x xs ws t f (inl e) = inr (f (inl e))
  still_at Greater k q x xs ws t f (inr (inl e)) = inl e
  still_at Greater k q x xs ws t f (inr (inr h)) = inr (f (inr h))

  has-with_member : (k q : K) (xs : List K) → ((x : K) → Has xs x → R k x ≡ Equal → k ≡ x) → (k ≡ q) ⊎ Has xs q → Has (with_member R k xs) q
  has-with_member k q [] one h = h
  has-with_member k q (x ∷ xs) one h = still_at (R k x) k q x xs (with_member R k xs) (one x (inl refl)) (has-with_member k q xs (λ y i. one y (inr i))) h

  rises_at : (c : Ordering) (k x : K) (xs ws : List K) → R k x ≡ c → IsStrictlySortedBy R (x ∷ xs) → IsStrictlySortedBy R ws → ((q : K) → Has ws q → (k ≡ q) ⊎ Has xs q) → IsStrictlySortedBy R (match_ordering c (k ∷ x ∷ xs) (x ∷ xs) (x ∷ ws))
  unfolding IsStrictlySortedBy
  rises_at Less k x xs ws t up w f = ((t, all_below (λ y. R k y ≡ Less) xs (λ y h. o.trans k x y t (all-has (λ z. R x z ≡ Less) xs y up.0 h))), up)
  rises_at Equal k x xs ws t up w f = up
  rises_at Greater k x xs ws t up w f =
      (all_below (λ y. R x y ≡ Less) ws (λ y h. elim (f y h) [ inl e ↦ subst (λ z. R x z ≡ Less) e (reversed o k x t) | inr i ↦ all-has (λ z. R x z ≡ Less) xs y up.0 i ]), w)

  rises-with_member : (k : K) (xs : List K) → IsStrictlySortedBy R xs → IsStrictlySortedBy R (with_member R k xs)
  unfolding IsStrictlySortedBy
  rises-with_member k [] up = (tt, tt)
  rises-with_member k (x ∷ xs) up =
      rises_at (R k x) k x xs (with_member R k xs) refl up (rises-with_member k xs up.1) (λ q. from_has-with_member k q xs)

  -- ---- all members of a list

  rises_along : (ms ks : List K) → IsStrictlySortedBy R ms → IsStrictlySortedBy R (fold (λ members k. with_member R k members) ms ks)
  rises_along ms [] up = up
  rises_along ms (k ∷ ks) up = rises_along (with_member R k ms) ks (rises-with_member k ms up)

  along : (ones : List K) → ((x y : K) → Has ones x → Has ones y → R x y ≡ Equal → x ≡ y) → (q : K) (ms ks : List K)
      → ((x : K) → Has ms x → Has ones x) → ((x : K) → Has ks x → Has ones x)
      → Has ms q ⊎ Has ks q → Has (fold (λ members k. with_member R k members) ms ks) q
  along ones one q ms [] f g (inl h) = h
  along ones one q ms [] f g (inr h) = absurd h
  along ones one q ms (k ∷ ks) f g h =
      along ones one q (with_member R k ms) ks among (λ x i. g x (inr i)) (still h)
    where
      among : (x : K) → Has (with_member R k ms) x → Has ones x
      among x i = elim (from_has-with_member k x ms i) [ inl e ↦ subst (Has ones) e (g k (inl refl)) | inr j ↦ f x j ]

      tied : (x : K) → Has ms x → R k x ≡ Equal → k ≡ x
      tied x i = one k x (g k (inl refl)) (f x i)

      still : Has ms q ⊎ Has (k ∷ ks) q → Has (with_member R k ms) q ⊎ Has ks q
      still (inl i) = inl (has-with_member k q ms tied (inr i))
      still (inr (inl e)) = inl (has-with_member k q ms tied (inl e))
      still (inr (inr i)) = inr i

  back_along : (q : K) (ms ks : List K) → Has (fold (λ members k. with_member R k members) ms ks) q → Has ms q ⊎ Has ks q
  back_along q ms [] h = inl h
  back_along q ms (k ∷ ks) h =
      elim (back_along q (with_member R k ms) ks h) [
        | inl l ↦ (elim (from_has-with_member k q ms l) [ inl e ↦ inr (inl e) | inr i ↦ inl i ])
        | inr r ↦ inr (inr r)
      ]

  -- a list that rises and has the members of another is that one in order
  pub in_order_of_ones : (xs ks : List K) → IsStrictlySortedBy R xs → ((q : K) → Has xs q → Has ks q) → ((q : K) → Has ks q → Has xs q) → xs ≡ in_order R ks
  unfolding in_order IsStrictlySortedBy
  in_order_of_ones xs ks up f g =
      same_members o xs (fold (λ members k. with_member R k members) [] ks) up (rises_along [] ks tt)
      (λ q h. along xs (one_tied xs up) q [] ks (λ x i. absurd i) g (inr (f q h)))
      (λ q h. (elim (back_along q [] ks h) [ inl i ↦ absurd i | inr i ↦ g q i ]))

-- what a list that rises is told as rises
pub rise_told : {K X : Type 0} (R : K → K → Ordering) (Q : X → X → Ordering) (f : K → X) → ((j k : K) → Q (f j) (f k) ≡ R j k) → (ks : List K) → IsStrictlySortedBy R ks → IsStrictlySortedBy Q (map f ks)
unfolding IsStrictlySortedBy
rise_told R Q f by [] up = tt
rise_told {K} {X} R Q f by (k ∷ ks) up = (told ks up.0, rise_told R Q f by ks up.1)
  where
    told : (js : List K) → AllByRecursion (λ j. R k j ≡ Less) js → AllByRecursion (λ (x : X). Q (f k) x ≡ Less) (map f js)
    told [] a = tt
    told (j ∷ js) a = (by k j ∙ a.0, told js a.1)

-- what rises by its keys
pub rise_by_key : {K X : Type 0} (key : X → K) (R : K → K → Ordering) (xs : List X) → IsStrictlySortedBy R (map key xs) → IsStrictlySortedBy (λ x y. R (key x) (key y)) xs
unfolding IsStrictlySortedBy
rise_by_key key R [] up = tt
rise_by_key {K} {X} key R (x ∷ xs) up = (keyed xs up.0, rise_by_key key R xs up.1)
  where
    keyed : (ys : List X) → AllByRecursion (λ k. R (key x) k ≡ Less) (map key ys) → AllByRecursion (λ y. R (key x) (key y) ≡ Less) ys
    keyed [] a = tt
    keyed (y ∷ ys) a = (a.0, keyed ys a.1)
