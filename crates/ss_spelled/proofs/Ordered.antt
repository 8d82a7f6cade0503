-- Lists in order, all of whose elements are below those of another list.
use Rattle.std.proofs.Common.{◌≡◌, ◌⊎◌, ℕ, ◌<◌, List, [], ◌∷◌, ◌++◌, length, inl, inr, refl, sym, ◌∙◌, ap, subst}
use Rattle.std.specs.declared.cmp.Ordering.{Ordering}
use Rattle.std.specs.declared.cmp.Ordering.TheVariants.{Less, Equal, Greater}
use Rattle.std.specs.Ordering.{nat_cmp, ordering_then}
use Rattle.std.specs.Cmp.{IsTotalOrder, nat_cmp_is}
use Rattle.std.specs.Cmp.Lexicographic.{slice_cmp}
use Rattle.std.specs.Prelude.{map}
use Rattle.std.specs.List.{AllByRecursion}
use Rattle.std.specs.List.Sorted.{IsStrictlySortedBy}
use Rattle.std.proofs.lemmas.Cmp.{tied_itself}
use Rattle.std.proofs.lemmas.Map.Lookups.{CmpEqualImpliesEq, exact_unsigned, exact_bytes}
use Rattle.ss_spelled.specs.declared.front.Front.{Front}
use Rattle.ss_spelled.specs.Orders.{text_cmp, front_cmp, front_cmp_total}
use Rattle.ss_spelled.proofs.Members.{In, every, at_member, in_push}

-- xs are in order, and each is below each of ws
pub record Below {K : Type 0} (R : K → K → Ordering) (xs ws : List K) : Type 0 where
  pub sorted : IsStrictlySortedBy R xs
  pub below : (x w : K) → In x xs → In w ws → R x w ≡ Less

sorted_push : {K : Type 0} (R : K → K → Ordering) (xs : List K) (p : K) → IsStrictlySortedBy R xs → ((x : K) → In x xs → R x p ≡ Less) → IsStrictlySortedBy R (xs ++ p ∷ [])
unfolding IsStrictlySortedBy
sorted_push R [] p s h = (tt, tt)
sorted_push {K} R (x ∷ xs) p s h = (
  every (λ (y : K). R x y ≡ Less) (xs ++ p ∷ []) (λ y i. elim (in_push xs p y i) [
    | inl k ↦ at_member (λ (y : K). R x y ≡ Less) xs y s.0 k
    | inr e ↦ subst (λ (y : K). R x y ≡ Less) e (h x (inl refl))
  ]),
  sorted_push R xs p s.1 (λ y i. h y (inr i)),
)

pub below_none : {K : Type 0} (R : K → K → Ordering) (ws : List K) → Below R [] ws
unfolding IsStrictlySortedBy
below_none R ws = record { sorted = tt; below = λ x w i j. absurd i }

-- the least of ws goes to the end of xs
pub below_push : {K : Type 0} (R : K → K → Ordering) (xs : List K) (p : K) (ws : List K) → Below R xs (p ∷ ws) → ((w : K) → In w ws → R p w ≡ Less) → Below R (xs ++ p ∷ []) ws
below_push {K} R xs p ws b least = record {
  sorted = sorted_push R xs p b.sorted (λ x i. b.below x p i (inl refl));
  below = λ x w i j. elim (in_push xs p x i) [
    | inl k ↦ b.below x w k (inr j)
    | inr e ↦ subst (λ (y : K). R y w ≡ Less) e (least w j)
  ];
}

-- ws give way to what was among them or is above one of them
pub below_grow : {K : Type 0} (R : K → K → Ordering) → IsTotalOrder R → (xs : List K) (p : K) (ws vs : List K) → Below R xs (p ∷ ws) → ((v : K) → In v vs → In v (p ∷ ws) ⊎ (R p v ≡ Less)) → Below R xs vs
below_grow R o xs p ws vs b h = record {
  sorted = b.sorted;
  below = λ x v i j. elim (h v j) [
    | inl k ↦ b.below x v i k
    | inr e ↦ o.trans x p v (b.below x p i (inl refl)) e
  ];
}

-- ---- fronts

then_less : (o r : Ordering) → o ≡ Equal → r ≡ Less → ordering_then o r ≡ Less
then_less o r e l = rw e l

then_first : (o r : Ordering) → o ≡ Less → ordering_then o r ≡ Less
then_first o r e = rw e

pub longer_is_above : (p q : Front) → q.total ≡ p.total → length p.text < length q.text → front_cmp p q ≡ Less
longer_is_above p q t l =
    then_less _ _ (sym (nat_cmp_is p.total q.total Equal (sym t)))
    (then_first _ _ (sym (nat_cmp_is (length p.text) (length q.text) Less l)))

then_equal : (o r : Ordering) → ordering_then o r ≡ Equal → (o ≡ Equal) × (r ≡ Equal)
then_equal Less r e = absurd cc
then_equal Equal r e = (refl, e)
then_equal Greater r e = absurd cc

pub same_front : (a b : Front) → a.total ≡ b.total → a.text ≡ b.text → a ≡ b
same_front a b t x = ap (λ n. front_of n a.text) t ∙ ap (λ y. front_of b.total y) x
  where
    front_of : ℕ → List ℕ → Front
    front_of n y = record { total = n; text = y }

pub front_exact : CmpEqualImpliesEq front_cmp
front_exact a b e =
    let p = then_equal (nat_cmp a.total b.total) (text_cmp a.text b.text) e in
    let q = then_equal (nat_cmp (length a.text) (length b.text)) (slice_cmp nat_cmp a.text b.text) p.1 in
    same_front a b (exact_unsigned _ _ p.0) (exact_bytes _ _ q.1)

-- the front of a text
abbrev pub whole : List ℕ → Front
whole text = record { total = length text; text = text }

then_twice : (o r : Ordering) → ordering_then o (ordering_then o r) ≡ ordering_then o r
then_twice Less r = refl
then_twice Equal r = refl
then_twice Greater r = refl

-- texts are in the order of their fronts
pub texts_sorted : (texts : List (List ℕ)) → IsStrictlySortedBy front_cmp (map whole texts) → IsStrictlySortedBy text_cmp texts
unfolding IsStrictlySortedBy
texts_sorted [] s = tt
texts_sorted (x ∷ xs) s =
    (rests x xs s.0, texts_sorted xs s.1)
  where
    rests : (x : List ℕ) (xs : List (List ℕ)) → AllByRecursion (λ (q : Front). front_cmp (whole x) q ≡ Less) (map whole xs) → AllByRecursion (λ (y : List ℕ). text_cmp x y ≡ Less) xs
    rests x [] h = tt
    rests x (y ∷ ys) h =
        (sym (then_twice (nat_cmp (length x) (length y)) (slice_cmp nat_cmp x y)) ∙ h.0, rests x ys h.1)

pub whole_in : (texts : List (List ℕ)) (t : List ℕ) → In t texts → In (whole t) (map whole texts)
whole_in [] t i = absurd i
whole_in (x ∷ xs) t i = elim i [ inl e ↦ inl (ap whole e) | inr i ↦ inr (whole_in xs t i) ]

pub map_push : {X Y : Type 0} (f : X → Y) (xs : List X) (x : X) → map f (xs ++ x ∷ []) ≡ map f xs ++ f x ∷ []
map_push f [] x = refl
map_push f (y ∷ ys) x = ap (λ zs. f y ∷ zs) (map_push f ys x)

pub not_below_itself : (p : Front) → front_cmp p p ≡ Less → ⊥
not_below_itself p e = let k = tied_itself front_cmp_total p in cc
