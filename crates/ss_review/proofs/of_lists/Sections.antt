-- A list in the order of a key falls into sections, one for each key: the first is what stands before the first element
-- with another key, and the others are those of the rest.
use Rattle.std.proofs.Common.{◌≡◌, ◌⊎◌, inl, inr, Bool, true, false, cond, List, [], ◌∷◌, ◌++◌, map, filter, refl, sym, ap, ◌∙◌, subst}
use Rattle.std.specs.declared.cmp.Ordering.{Ordering}
use Rattle.std.specs.declared.cmp.Ordering.TheVariants.{Less, Equal, Greater}
use Rattle.std.specs.Ordering.{is_eq, is_gt, ordering_reverse}
use Rattle.std.specs.Cmp.{IsTotalOrder, Equal-is}
use Rattle.std.specs.List.{AllByRecursion}
use Rattle.std.specs.List.Sorted.{IsStrictlySortedBy}
use Rattle.std.proofs.lemmas.Cmp.{tied_itself, alike_right}
use Rattle.std.proofs.lemmas.List.{append-nil}
use Rattle.std.proofs.lemmas.List.Elements.{filter-append}
use Rattle.std.proofs.lemmas.Map.Lookups.{CmpEqualImpliesEq}
use Rattle.ss_review.specs.Ordered.{in_order}
use Rattle.ss_octets.proofs.Members.{Has, has-map, has-append_right, from_has-map, has-append_cases, all-has}
use Rattle.ss_review.proofs.of_lists.Rising.{all_below, rises-in_order, has-in_order, from_has-in_order, in_order_is}

-- ---- filters that keep all, or none

pub keeps_all : {X : Type 0} (p : X → Bool) (xs : List X) → AllByRecursion (λ x. p x ≡ true) xs → filter p xs ≡ xs
keeps_all p [] a = refl
keeps_all p (x ∷ xs) a = ap (λ b. cond b (x ∷ filter p xs) (filter p xs)) a.0 ∙ ap (λ ys. x ∷ ys) (keeps_all p xs a.1)

pub keeps_none : {X : Type 0} (p : X → Bool) (xs : List X) → AllByRecursion (λ x. p x ≡ false) xs → filter p xs ≡ []
keeps_none p [] a = refl
keeps_none p (x ∷ xs) a = ap (λ b. cond b (x ∷ filter p xs) (filter p xs)) a.0 ∙ keeps_none p xs a.1

-- maps that agree at each member are equal
pub map_agree : {X Y : Type 0} (f g : X → Y) (xs : List X) → ((x : X) → Has xs x → f x ≡ g x) → map f xs ≡ map g xs
map_agree f g [] e = refl
map_agree f g (x ∷ xs) e =
    let head : f x ≡ g x = e x (inl refl) in
    let rest : map f xs ≡ map g xs = map_agree f g xs (λ y h. e y (inr h)) in
    λ i. head i ∷ rest i

module _ {X K : Type 0} (key : X → K) {R : K → K → Ordering} (o : IsTotalOrder R) (exact : CmpEqualImpliesEq R) where
  abbrev pub same : K → X → Bool
  same k x = is_eq (R (key x) k)

  -- no element's key is above a later one's
  abbrev pub KeysRise : List X → Type 0
  KeysRise [] = Unit {0}
  KeysRise (x ∷ xs) = AllByRecursion (λ y. is_gt (R (key x) (key y)) ≡ false) xs × KeysRise xs

  -- ---- the elements from the front on that have a key, and the rest

  abbrev pub front : K → List X → List X
  front k [] = []
  front k (x ∷ xs) = cond (same k x) (x ∷ front k xs) []

  abbrev pub back : K → List X → List X
  back k [] = []
  back k (x ∷ xs) = cond (same k x) (back k xs) (x ∷ xs)

  split_at : (b : Bool) (x : X) (xs fs bs : List X) → fs ++ bs ≡ xs → cond b (x ∷ fs) [] ++ cond b bs (x ∷ xs) ≡ x ∷ xs
  split_at true x xs fs bs e = ap (λ ys. x ∷ ys) e
  split_at false x xs fs bs e = refl

  pub split_is : (k : K) (xs : List X) → front k xs ++ back k xs ≡ xs
  split_is k [] = refl
  split_is k (x ∷ xs) = split_at (same k x) x xs (front k xs) (back k xs) (split_is k xs)

  front_at : (k : K) (b : Bool) (x : X) (fs : List X) → same k x ≡ b → AllByRecursion (λ y. same k y ≡ true) fs → AllByRecursion (λ y. same k y ≡ true) (cond b (x ∷ fs) [])
  front_at k true x fs e a = (e, a)
  front_at k false x fs e a = tt

  pub front_same : (k : K) (xs : List X) → AllByRecursion (λ y. same k y ≡ true) (front k xs)
  front_same k [] = tt
  front_same k (x ∷ xs) = front_at k (same k x) x (front k xs) refl (front_same k xs)

  -- a key that isn't above, and isn't the same, is below
  less_of : (c : Ordering) → is_gt c ≡ false → is_eq (ordering_reverse c) ≡ false → c ≡ Less
  less_of Less g e = refl
  less_of Equal g e = cc
  less_of Greater g e = cc

  apart : (k : K) (x : X) → is_gt (R k (key x)) ≡ false → same k x ≡ false → R k (key x) ≡ Less
  apart k x g e = less_of (R k (key x)) g (ap is_eq (sym (o.antisymm (key x) k)) ∙ e)

  beyond : (c : Ordering) (k j q : K) → R k j ≡ Less → R j q ≡ c → is_gt c ≡ false → R k q ≡ Less
  beyond Less k j q l e g = o.trans k j q l e
  beyond Equal k j q l e g = sym (alike_right o j q k e) ∙ l
  beyond Greater k j q l e g = cc

  back_at : (k : K) (b : Bool) (x : X) (xs bs : List X) → same k x ≡ b → is_gt (R k (key x)) ≡ false → KeysRise (x ∷ xs) → AllByRecursion (λ y. R k (key y) ≡ Less) bs → AllByRecursion (λ y. R k (key y) ≡ Less) (cond b bs (x ∷ xs))
  back_at k true x xs bs e g up a = a
  back_at k false x xs bs e g up a =
      let less : R k (key x) ≡ Less = apart k x g e in
      (less, all_below (λ y. R k (key y) ≡ Less) xs (λ y h. beyond (R (key x) (key y)) k (key x) (key y) less refl (all-has (λ z. is_gt (R (key x) (key z)) ≡ false) xs y up.0 h)))

  pub back_above : (k : K) (xs : List X) → KeysRise xs → AllByRecursion (λ y. is_gt (R k (key y)) ≡ false) xs → AllByRecursion (λ y. R k (key y) ≡ Less) (back k xs)
  back_above k [] up g = tt
  back_above k (x ∷ xs) up g = back_at k (same k x) x xs (back k xs) refl g.0 up (back_above k xs up.1 g.1)

  -- the keys of the rest rise too
  rest_at : (b : Bool) (x : X) (xs bs : List X) → KeysRise (x ∷ xs) → KeysRise bs → KeysRise (cond b bs (x ∷ xs))
  rest_at true x xs bs up r = r
  rest_at false x xs bs up r = up

  pub back_rises : (k : K) (xs : List X) → KeysRise xs → KeysRise (back k xs)
  back_rises k [] up = tt
  back_rises k (x ∷ xs) up = rest_at (same k x) x xs (back k xs) up (back_rises k xs up.1)

  -- ---- the keys

  has_split : (k : K) (xs : List X) (y : X) → Has xs y → Has (front k xs) y ⊎ Has (back k xs) y
  has_split k xs y h = has-append_cases (front k xs) (back k xs) y (subst (λ ys. Has ys y) (sym (split_is k xs)) h)

  back_has : (k : K) (xs : List X) (y : X) → Has (back k xs) y → Has xs y
  back_has k xs y h = subst (λ ys. Has ys y) (split_is k xs) (has-append_right (front k xs) (back k xs) y h)

  key_is : (k : K) (x : X) → same k x ≡ true → key x ≡ k
  key_is k x e = exact (key x) k ((Equal-is (R (key x) k)).0 e)

  keys_rise : (x : X) (xs : List X) → KeysRise (x ∷ xs) → IsStrictlySortedBy R (key x ∷ in_order R (map key (back (key x) xs)))
  unfolding IsStrictlySortedBy
  keys_rise x xs up = (
    all_below (λ q. R (key x) q ≡ Less) (in_order R (map key (back (key x) xs))) (λ q h.
        (let w : (y : X) × Has (back (key x) xs) y × (key y ≡ q) = from_has-map key (back (key x) xs) q (from_has-in_order o exact q (map key (back (key x) xs)) h) in
        subst (λ p. R (key x) p ≡ Less) w.2 (all-has (λ z. R (key x) (key z) ≡ Less) (back (key x) xs) w.0 (back_above (key x) xs up.1 up.0) w.1))),
    rises-in_order o exact (map key (back (key x) xs)),
  )

  pub keys_step : (x : X) (xs : List X) → KeysRise (x ∷ xs) → in_order R (map key (x ∷ xs)) ≡ key x ∷ in_order R (map key (back (key x) xs))
  keys_step x xs up = sym (in_order_is o exact (key x ∷ in_order R (map key (back (key x) xs))) (map key (x ∷ xs)) (keys_rise x xs up) there back_again)
    where
      there : (q : K) → Has (key x ∷ in_order R (map key (back (key x) xs))) q → Has (map key (x ∷ xs)) q
      there q (inl e) = inl e
      there q (inr h) =
          let w : (y : X) × Has (back (key x) xs) y × (key y ≡ q) = from_has-map key (back (key x) xs) q (from_has-in_order o exact q (map key (back (key x) xs)) h) in
          inr (subst (Has (map key xs)) w.2 (has-map key xs w.0 (back_has (key x) xs w.0 w.1)))

      back_again : (q : K) → Has (map key (x ∷ xs)) q → Has (key x ∷ in_order R (map key (back (key x) xs))) q
      back_again q (inl e) = inl e
      back_again q (inr h) =
          let w : (y : X) × Has xs y × (key y ≡ q) = from_has-map key xs q h in
          elim (has_split (key x) xs w.0 w.1) [
            | inl l ↦ inl (sym (key_is (key x) w.0 (all-has (λ z. same (key x) z ≡ true) (front (key x) xs) w.0 (front_same (key x) xs) l)) ∙ w.2)
            | inr r ↦ inr (has-in_order o exact q (map key (back (key x) xs)) (subst (Has (map key (back (key x) xs))) w.2 (has-map key (back (key x) xs) w.0 r)))
          ]

  -- ---- the sections

  none_of : (c : Ordering) → ordering_reverse c ≡ Less → is_eq c ≡ false
  none_of Less e = refl
  none_of Equal e = cc
  none_of Greater e = refl

  not_same : (k : K) (x : X) → R k (key x) ≡ Less → same k x ≡ false
  not_same k x e = none_of (R (key x) k) (sym (o.antisymm k (key x)) ∙ e)

  first_section : (x : X) (xs : List X) → KeysRise (x ∷ xs) → filter (same (key x)) (x ∷ xs) ≡ x ∷ front (key x) xs
  first_section x xs up =
      ap (λ b. cond b (x ∷ filter (same (key x)) xs) (filter (same (key x)) xs)) (ap is_eq (tied_itself o (key x)))
      ∙ ap (λ ys. x ∷ ys)
      (ap (filter (same (key x))) (sym (split_is (key x) xs))
      ∙ filter-append (same (key x)) (front (key x) xs) (back (key x) xs)
      ∙ ap (λ ys. ys ++ filter (same (key x)) (back (key x) xs)) (keeps_all (same (key x)) (front (key x) xs) (front_same (key x) xs))
      ∙ ap (λ ys. front (key x) xs ++ ys)
      (keeps_none (same (key x)) (back (key x) xs) (all_below (λ y. same (key x) y ≡ false) (back (key x) xs) (λ y h. not_same (key x) y (all-has (λ z. R (key x) (key z) ≡ Less) (back (key x) xs) y (back_above (key x) xs up.1 up.0) h))))
      ∙ append-nil (front (key x) xs))

  -- an element with a smaller key isn't of a section
  other_key : (k q : K) (y : X) → same k y ≡ true → R k q ≡ Less → same q y ≡ false
  other_key k q y e l = let at : key y ≡ k = key_is k y e in ap (λ j. is_eq (R j q)) at ∙ ap is_eq l

  later_section : (x : X) (xs : List X) (q : K) → R (key x) q ≡ Less → filter (same q) (x ∷ xs) ≡ filter (same q) (back (key x) xs)
  later_section x xs q l =
      ap (λ b. cond b (x ∷ filter (same q) xs) (filter (same q) xs)) (ap is_eq l)
      ∙ ap (filter (same q)) (sym (split_is (key x) xs))
      ∙ filter-append (same q) (front (key x) xs) (back (key x) xs)
      ∙ ap (λ ys. ys ++ filter (same q) (back (key x) xs))
      (keeps_none (same q) (front (key x) xs) (all_below (λ y. same q y ≡ false) (front (key x) xs) (λ y h. other_key (key x) q y (all-has (λ z. same (key x) z ≡ true) (front (key x) xs) y (front_same (key x) xs) h) l)))

  -- each key with its elements
  abbrev pub sections : List X → List (K × List X)
  sections xs = map (λ k. (k, filter (same k) xs)) (in_order R (map key xs))

  pub sections_step : (x : X) (xs : List X) → KeysRise (x ∷ xs) → sections (x ∷ xs) ≡ (key x, x ∷ front (key x) xs) ∷ sections (back (key x) xs)
  sections_step x xs up =
      ap (map (λ k. (k, filter (same k) (x ∷ xs)))) (keys_step x xs up)
      ∙ (λ i. (key x, first_section x xs up i) ∷ map_agree (λ k. (k, filter (same k) (x ∷ xs))) (λ k. (k, filter (same k) (back (key x) xs))) (in_order R (map key (back (key x) xs))) later i)
    where
      later : (q : K) → Has (in_order R (map key (back (key x) xs))) q → ◌≡◌ {A = K × List X} (q, filter (same q) (x ∷ xs)) (q, filter (same q) (back (key x) xs))
      later q h =
          let w : (y : X) × Has (back (key x) xs) y × (key y ≡ q) = from_has-map key (back (key x) xs) q (from_has-in_order o exact q (map key (back (key x) xs)) h) in
          ap (λ ys. (q, ys)) (later_section x xs q (subst (λ p. R (key x) p ≡ Less) w.2 (all-has (λ z. R (key x) (key z) ≡ Less) (back (key x) xs) w.0 (back_above (key x) xs up.1 up.0) w.1)))
