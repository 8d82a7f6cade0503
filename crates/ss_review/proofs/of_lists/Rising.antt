-- Lists that rise, and the members of a list in their order.
use Rattle.std.proofs.Common.{◌≡◌, ◌⊎◌, inl, inr, List, [], ◌∷◌, ◌++◌, map, fold, refl, sym, ap, ◌∙◌, subst}
use Rattle.std.specs.declared.cmp.Ordering.{Ordering}
use Rattle.std.specs.declared.cmp.Ordering.TheVariants.{Less, Equal, Greater}
use Rattle.std.specs.Ordering.{match_ordering, ordering_reverse}
use Rattle.std.specs.Cmp.{IsTotalOrder}
use Rattle.std.specs.List.{AllByRecursion, Any, Contains}
use Rattle.std.specs.List.Sorted.{IsStrictlySortedBy}
use Rattle.std.specs.BTreeMap.{insert_entry}
use Rattle.std.specs.Map.{keys_of}
use Rattle.std.proofs.lemmas.Cmp.{tied_itself, on_total}
use Rattle.std.proofs.lemmas.List.Sums.{fold-append}
use Rattle.std.proofs.lemmas.Map.Lookups.{CmpEqualImpliesEq}
use Rattle.ss_review.specs.Ordered.{with_member, in_order}
use Rattle.ss_octets.proofs.Members.{Has, has_from_contains, contains_from_has, has-map, from_has-map, all-has}

-- ---- what holds of each member

pub all_below : {X : Type 0} (P : X → Type 0) (xs : List X) → ((x : X) → Has xs x → P x) → AllByRecursion P xs
all_below P [] f = tt
all_below P (y ∷ ys) f = (f y (inl refl), all_below P ys (λ x h. f x (inr h)))

-- ---- keys

all_keys : {X K : Type 0} (key : X → K) (P : K → Type 0) (xs : List X) → AllByRecursion (λ x. P (key x)) xs → AllByRecursion P (map key xs)
all_keys key P [] a = tt
all_keys key P (x ∷ xs) a = (a.0, all_keys key P xs a.1)

rise_by : {X K : Type 0} (key : X → K) (R : K → K → Ordering) (xs : List X) → IsStrictlySortedBy (λ x y. R (key x) (key y)) xs → IsStrictlySortedBy R (map key xs)
unfolding IsStrictlySortedBy
rise_by key R [] up = tt
rise_by key R (x ∷ xs) up = (all_keys key (λ k. R (key x) k ≡ Less) xs up.0, rise_by key R xs up.1)

keys_all : {X K : Type 0} (key : X → K) (P : K → Type 0) (xs : List X) → AllByRecursion P (map key xs) → AllByRecursion (λ x. P (key x)) xs
keys_all key P [] a = tt
keys_all key P (x ∷ xs) a = (a.0, keys_all key P xs a.1)

pub rise_from : {X K : Type 0} (key : X → K) (R : K → K → Ordering) (xs : List X) → IsStrictlySortedBy R (map key xs) → IsStrictlySortedBy (λ x y. R (key x) (key y)) xs
unfolding IsStrictlySortedBy
rise_from key R [] up = tt
rise_from key R (x ∷ xs) up = (keys_all key (λ k. R (key x) k ≡ Less) xs up.0, rise_from key R xs up.1)

-- the keys of a list that rises by them rise
pub keys_rise : {X K : Type 0} (key : X → K) (R : K → K → Ordering) (Q : X → X → Ordering) → ((x y : X) → Q x y ≡ R (key x) (key y)) → (xs : List X) → IsStrictlySortedBy Q xs → IsStrictlySortedBy R (map key xs)
keys_rise {X} key R Q by xs up = rise_by key R xs (subst (λ (S : X → X → Ordering). IsStrictlySortedBy S xs) (λ i x y. by x y i) up)

-- and so do those of a list whose members stand as their keys
pub keys_rise_among : {X K : Type 0} (key : X → K) (R : K → K → Ordering) (Q : X → X → Ordering) (xs : List X) → ((x y : X) → Has xs x → Has xs y → Q x y ≡ R (key x) (key y)) → IsStrictlySortedBy Q xs → IsStrictlySortedBy R (map key xs)
unfolding IsStrictlySortedBy
keys_rise_among key R Q [] by up = tt
keys_rise_among {X} key R Q (x ∷ xs) by up = (
  all_below (λ k. R (key x) k ≡ Less) (map key xs) (λ k h.
      (let w : (y : X) × Has xs y × (key y ≡ k) = from_has-map key xs k h in
      subst (λ z. R (key x) z ≡ Less) w.2 (sym (by x w.0 (inl refl) (inr w.1)) ∙ all-has (λ y. Q x y ≡ Less) xs w.0 up.0 w.1))),
  keys_rise_among key R Q xs (λ y z g h. by y z (inr g) (inr h)) up.1,
)

module _ {K : Type 0} {R : K → K → Ordering} (o : IsTotalOrder R) where
  pub not_less_itself : (k : K) → R k k ≡ Less → ⊥
  not_less_itself k e = let t : R k k ≡ Equal = tied_itself o k in absurd (cc)

  pub reversed : (x y : K) → R x y ≡ Greater → R y x ≡ Less
  reversed x y e = o.antisymm y x ∙ ap ordering_reverse e

  -- ---- lists that rise and have the same members are equal

  first_is : (x y : K) (xs ys : List K) → IsStrictlySortedBy R (x ∷ xs) → IsStrictlySortedBy R (y ∷ ys) → Has (y ∷ ys) x → Has (x ∷ xs) y → x ≡ y
  unfolding IsStrictlySortedBy
  first_is x y xs ys up vp (inl e) h = sym e
  first_is x y xs ys up vp (inr g) (inl e) = e
  first_is x y xs ys up vp (inr g) (inr h) =
      absurd (not_less_itself x (o.trans x y x (all-has (λ z. R x z ≡ Less) xs y up.0 h) (all-has (λ z. R y z ≡ Less) ys x vp.0 g)))

  rest_has : (x q : K) (xs ys : List K) → IsStrictlySortedBy R (x ∷ xs) → Has xs q → Has (x ∷ ys) q → Has ys q
  unfolding IsStrictlySortedBy
  rest_has x q xs ys up h (inl e) = absurd (not_less_itself x (subst (λ z. R x z ≡ Less) (sym e) (all-has (λ z. R x z ≡ Less) xs q up.0 h)))
  rest_has x q xs ys up h (inr g) = g

  pub same_members : (xs ys : List K) → IsStrictlySortedBy R xs → IsStrictlySortedBy R ys → ((q : K) → Has xs q → Has ys q) → ((q : K) → Has ys q → Has xs q) → xs ≡ ys
  unfolding IsStrictlySortedBy
  same_members [] [] up vp f g = refl
  same_members [] (y ∷ ys) up vp f g = absurd (g y (inl refl))
  same_members (x ∷ xs) [] up vp f g = absurd (f x (inl refl))
  same_members (x ∷ xs) (y ∷ ys) up vp f g =
      let e : x ≡ y = first_is x y xs ys up vp (f x (inl refl)) (g y (inl refl)) in
      let rest : xs ≡ ys = same_members xs ys up.1 vp.1
      (λ q h. rest_has x q xs ys up h (subst (λ z. Has (z ∷ ys) q) (sym e) (f q (inr h))))
      (λ q h. rest_has y q ys xs vp h (subst (λ z. Has (z ∷ xs) q) e (g q (inr h)))) in
      λ i. e i ∷ rest i

-- lists whose keys rise and that have the same members are equal
pub same_keyed : {K X : Type 0} {R : K → K → Ordering} (o : IsTotalOrder R) (key : X → K) (xs ys : List X) → IsStrictlySortedBy R (map key xs) → IsStrictlySortedBy R (map key ys) → ((q : X) → Has xs q → Has ys q) → ((q : X) → Has ys q → Has xs q) → xs ≡ ys
same_keyed {R = R} o key xs ys up vp f g = same_members (on_total key o) xs ys (rise_from key R xs up) (rise_from key R ys vp) f g

module _ {K : Type 0} {R : K → K → Ordering} (o : IsTotalOrder R) (exact : CmpEqualImpliesEq R) where
  -- ---- one more member

  has_at : (c : Ordering) (k q x : K) (xs ws : List K) → (Has ws q → (k ≡ q) ⊎ Has xs q) → Has (match_ordering c (k ∷ x ∷ xs) (x ∷ xs) (x ∷ ws)) q → (k ≡ q) ⊎ Has (x ∷ xs) q
  has_at Less k q x xs ws f h = h
  has_at Equal k q x xs ws f h = inr h
  has_at Greater k q x xs ws f (inl e) = inr (inl e)
  has_at Greater k q x xs ws f (inr h) = elim (f h) [ inl e ↦ inl e | inr i ↦ inr (inr i) ]

  pub from_has-with_member : (k q : K) (xs : List K) → Has (with_member R k xs) q → (k ≡ q) ⊎ Has xs q
  from_has-with_member k q [] h = h
  from_has-with_member k q (x ∷ xs) h = has_at (R k x) k q x xs (with_member R k xs) (from_has-with_member k q xs) h

  still_at : (c : Ordering) (k q x : K) (xs ws : List K) → R k x ≡ c → ((k ≡ q) ⊎ Has xs q → Has ws q) → (k ≡ q) ⊎ Has (x ∷ xs) q → Has (match_ordering c (k ∷ x ∷ xs) (x ∷ xs) (x ∷ ws)) q
  still_at Less k q x xs ws t f h = h
  still_at Equal k q x xs ws t f (inl e) = inl (sym (exact k x t) ∙ e)
  still_at Equal k q x xs ws t f (inr h) = h
  still_at Greater k q x xs ws t f (inl e) = inr (f (inl e))
  still_at Greater k q x xs ws t f (inr (inl e)) = inl e
  still_at Greater k q x xs ws t f (inr (inr h)) = inr (f (inr h))

  pub has-with_member : (k q : K) (xs : List K) → (k ≡ q) ⊎ Has xs q → Has (with_member R k xs) q
  has-with_member k q [] h = h
  has-with_member k q (x ∷ xs) h = still_at (R k x) k q x xs (with_member R k xs) refl (has-with_member k q xs) h

  rises_at : (c : Ordering) (k x : K) (xs ws : List K) → R k x ≡ c → IsStrictlySortedBy R (x ∷ xs) → IsStrictlySortedBy R ws → ((q : K) → Has ws q → (k ≡ q) ⊎ Has xs q) → IsStrictlySortedBy R (match_ordering c (k ∷ x ∷ xs) (x ∷ xs) (x ∷ ws))
  unfolding IsStrictlySortedBy
  rises_at Less k x xs ws t up w f = ((t, all_below (λ y. R k y ≡ Less) xs (λ y h. o.trans k x y t (all-has (λ z. R x z ≡ Less) xs y up.0 h))), up)
  rises_at Equal k x xs ws t up w f = up
  rises_at Greater k x xs ws t up w f =
      (all_below (λ y. R x y ≡ Less) ws (λ y h. elim (f y h) [ inl e ↦ subst (λ z. R x z ≡ Less) e (reversed o k x t) | inr i ↦ all-has (λ z. R x z ≡ Less) xs y up.0 i ]), w)

  pub rises-with_member : (k : K) (xs : List K) → IsStrictlySortedBy R xs → IsStrictlySortedBy R (with_member R k xs)
  unfolding IsStrictlySortedBy
  rises-with_member k [] up = (tt, tt)
  rises-with_member k (x ∷ xs) up =
      rises_at (R k x) k x xs (with_member R k xs) refl up (rises-with_member k xs up.1) (λ q. from_has-with_member k q xs)

  -- ---- all members of a list

  rises_along : (ms ks : List K) → IsStrictlySortedBy R ms → IsStrictlySortedBy R (fold (λ members k. with_member R k members) ms ks)
  rises_along ms [] up = up
  rises_along ms (k ∷ ks) up = rises_along (with_member R k ms) ks (rises-with_member k ms up)

  pub rises-in_order : (ks : List K) → IsStrictlySortedBy R (in_order R ks)
  unfolding in_order IsStrictlySortedBy
  rises-in_order ks = rises_along [] ks tt

  along : (q : K) (ms ks : List K) → Has ms q ⊎ Has ks q → Has (fold (λ members k. with_member R k members) ms ks) q
  along q ms [] (inl h) = h
  along q ms [] (inr h) = absurd h
  along q ms (k ∷ ks) (inl h) = along q (with_member R k ms) ks (inl (has-with_member k q ms (inr h)))
  along q ms (k ∷ ks) (inr (inl e)) = along q (with_member R k ms) ks (inl (has-with_member k q ms (inl e)))
  along q ms (k ∷ ks) (inr (inr h)) = along q (with_member R k ms) ks (inr h)

  pub has-in_order : (q : K) (ks : List K) → Has ks q → Has (in_order R ks) q
  unfolding in_order
  has-in_order q ks h = along q [] ks (inr h)

  back_along : (q : K) (ms ks : List K) → Has (fold (λ members k. with_member R k members) ms ks) q → Has ms q ⊎ Has ks q
  back_along q ms [] h = inl h
  back_along q ms (k ∷ ks) h =
      elim (back_along q (with_member R k ms) ks h) [
        | inl l ↦ (elim (from_has-with_member k q ms l) [ inl e ↦ inr (inl e) | inr i ↦ inl i ])
        | inr r ↦ inr (inr r)
      ]

  pub from_has-in_order : (q : K) (ks : List K) → Has (in_order R ks) q → Has ks q
  unfolding in_order
  from_has-in_order q ks h = elim (back_along q [] ks h) [ inl l ↦ absurd l | inr r ↦ r ]

  -- a list that rises and has the members of another is that one in order
  pub in_order_is : (xs ks : List K) → IsStrictlySortedBy R xs → ((q : K) → Has xs q → Has ks q) → ((q : K) → Has ks q → Has xs q) → xs ≡ in_order R ks
  in_order_is xs ks up f g =
      same_members o xs (in_order R ks) up (rises-in_order ks) (λ q h. has-in_order q ks (f q h)) (λ q h. g q (from_has-in_order q ks h))

  -- A list that rises and has the members of another has their keys in order, where the keys stand as those members.
  pub in_order_among : {X : Type 0} (key : X → K) (Q : X → X → Ordering) (xs ys : List X)
      → ((x y : X) → Has xs x → Has xs y → Q x y ≡ R (key x) (key y))
      → IsStrictlySortedBy Q ys
      → ((x : X) → Contains xs x → Any (λ y. Q x y ≡ Equal) ys)
      → ((x : X) → Contains ys x → Contains xs x)
      → map key ys ≡ in_order R (map key xs)
  in_order_among {X} key Q xs ys by up keeps adds_none =
      in_order_is (map key ys) (map key xs) (keys_rise_among key R Q ys (λ x y g h. by x y (member x g) (member y h)) up) there back
    where
      member : (x : X) → Has ys x → Has xs x
      member x h = has_from_contains xs x (adds_none x (contains_from_has ys x h))

      there : (q : K) → Has (map key ys) q → Has (map key xs) q
      there q h =
          let w : (y : X) × Has ys y × (key y ≡ q) = from_has-map key ys q h in
          subst (Has (map key xs)) w.2 (has-map key xs w.0 (member w.0 w.1))

      back : (q : K) → Has (map key xs) q → Has (map key ys) q
      back q h =
          let w : (x : X) × Has xs x × (key x ≡ q) = from_has-map key xs q h in
          let k = keeps w.0 (contains_from_has xs w.0 w.1) in
          let at : Has ys k.1 = has_from_contains ys k.1 (k.0, k.2, k.3) in
          subst (Has (map key ys)) (sym (exact (key w.0) (key k.1) (sym (by w.0 k.1 w.1 (member k.1 at)) ∙ k.4)) ∙ w.2) (has-map key ys k.1 at)

  -- a list that rises by its keys and has the keys of another has those in order
  pub in_order_by : {X : Type 0} (key : X → K) (Q : X → X → Ordering) → ((x y : X) → Q x y ≡ R (key x) (key y)) → (xs ys : List X)
      → IsStrictlySortedBy Q ys
      → ((x : X) → Contains xs x → Any (λ y. Q x y ≡ Equal) ys)
      → ((x : X) → Contains ys x → Contains xs x)
      → map key ys ≡ in_order R (map key xs)
  in_order_by key Q by xs ys up keeps adds_none = in_order_among key Q xs ys (λ x y g h. by x y) up keeps adds_none

  -- lists with the same members are equal in order
  pub in_order_same : (ks js : List K) → ((q : K) → Has ks q → Has js q) → ((q : K) → Has js q → Has ks q) → in_order R ks ≡ in_order R js
  in_order_same ks js f g =
      in_order_is (in_order R ks) js (rises-in_order ks) (λ q h. f q (from_has-in_order q ks h)) (λ q h. has-in_order q ks (g q h))

-- ---- one more

pub in_order_push : {K : Type 0} (R : K → K → Ordering) (ks : List K) (k : K) → in_order R (ks ++ k ∷ []) ≡ with_member R k (in_order R ks)
unfolding in_order
in_order_push R ks k = fold-append (λ members q. with_member R q members) [] ks (k ∷ [])

-- ---- the keys of a map in order, once a key is put in

keys_at : {K X : Type 0} (c : Ordering) (k : K) (v : X) (e : K × X) (es ws : List (K × X)) → keys_of (match_ordering c ((k, v) ∷ e ∷ es) ((e.0, v) ∷ es) (e ∷ ws)) ≡ match_ordering c (k ∷ e.0 ∷ keys_of es) (e.0 ∷ keys_of es) (e.0 ∷ keys_of ws)
keys_at Less k v e es ws = refl
keys_at Equal k v e es ws = refl
keys_at Greater k v e es ws = refl

pub keys-insert_entry : {K X : Type 0} (R : K → K → Ordering) (es : List (K × X)) (k : K) (v : X) → keys_of (insert_entry R es k v) ≡ with_member R k (keys_of es)
keys-insert_entry R [] k v = refl
keys-insert_entry R (e ∷ es) k v =
    keys_at (R k e.0) k v e es (insert_entry R es k v)
    ∙ ap (λ ws. match_ordering (R k e.0) (k ∷ e.0 ∷ keys_of es) (e.0 ∷ keys_of es) (e.0 ∷ ws)) (keys-insert_entry R es k v)
