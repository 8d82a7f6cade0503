-- Members of a list, by recursion.
use Rattle.std.proofs.Common.{◌≡◌, ◌⊎◌, List, [], ◌∷◌, ◌++◌, inl, inr, refl, sym, subst, arith}
use Rattle.std.specs.declared.cmp.Ordering.{Ordering}
use Rattle.std.specs.declared.cmp.Ordering.TheVariants.{Less, Equal, Greater}
use Rattle.std.specs.Ordering.{match_ordering}
use Rattle.std.specs.BTreeSet.{insert_key}
use Rattle.std.specs.List.{All, AllByRecursion, Contains}
use Rattle.std.proofs.lemmas.Map.Lookups.{CmpEqualImpliesEq}
use Rattle.std.proofs.lemmas.List.Elements.{All-nil, All-cons, All-weaker, All-contains, Contains-append_right}

-- x is one of the elements
abbrev pub In : {X : Type 0} → X → List X → Type 0
In x [] = ⊥
In x (y ∷ ys) = (y ≡ x) ⊎ In x ys

all_in : {X : Type 0} (xs : List X) → All (λ y. In y xs) xs
all_in {X} [] = All-nil (λ (y : X). In y [])
all_in {X} (x ∷ xs) =
    All-cons (λ (y : X). In y (x ∷ xs)) x xs (inl refl)
    (All-weaker (λ (y : X). In y xs) (λ (y : X). In y (x ∷ xs)) (λ y i. inr i) xs (all_in xs))

pub to_in : {X : Type 0} (xs : List X) (x : X) → Contains xs x → In x xs
to_in {X} xs x c = All-contains (λ (y : X). In y xs) xs x (all_in xs) c

pub from_in : {X : Type 0} (xs : List X) (x : X) → In x xs → Contains xs x
from_in [] x i = absurd i
from_in {X} (y ∷ ys) x i =
    elim i [
      | inl e ↦ (0, omega arith, e)
      | inr i ↦ Contains-append_right (y ∷ []) ys x (from_in ys x i)
    ]

-- ---- what holds of each element

pub every : {X : Type 0} (P : X → Type 0) (xs : List X) → ((x : X) → In x xs → P x) → AllByRecursion P xs
every P [] h = tt
every P (x ∷ xs) h = (h x (inl refl), every P xs (λ y i. h y (inr i)))

pub at_member : {X : Type 0} (P : X → Type 0) (xs : List X) (x : X) → AllByRecursion P xs → In x xs → P x
at_member P [] x h i = absurd i
at_member P (y ∷ ys) x h i = elim i [ inl e ↦ subst P e h.0 | inr i ↦ at_member P ys x h.1 i ]

pub in_push : {X : Type 0} (xs : List X) (y x : X) → In x (xs ++ y ∷ []) → In x xs ⊎ (y ≡ x)
in_push [] y x i = elim i [ inl e ↦ inr e | inr i ↦ absurd i ]
in_push (z ∷ zs) y x i =
    elim i [
      | inl e ↦ inl (inl e)
      | inr i ↦ elim (in_push zs y x i) [ inl k ↦ inl (inr k) | inr e ↦ inr e ]
    ]

pub in_front : {X : Type 0} (xs : List X) (y x : X) → In x xs → In x (xs ++ y ∷ [])
in_front [] y x i = absurd i
in_front (z ∷ zs) y x i = elim i [ inl e ↦ inl e | inr i ↦ inr (in_front zs y x i) ]

pub in_end : {X : Type 0} (xs : List X) (y : X) → In y (xs ++ y ∷ [])
in_end [] y = inl refl
in_end (z ∷ zs) y = inr (in_end zs y)

-- ---- a key that is put into a set

pub kept_in : {K : Type 0} (R : K → K → Ordering) (ks : List K) (k q : K) → In q ks → In q (insert_key R ks k)
kept_in R [] k q i = absurd i
kept_in {K} R (x ∷ xs) k q i =
    elim (R k x) as (λ o. In q (match_ordering o (k ∷ x ∷ xs) (x ∷ xs) (x ∷ insert_key R xs k))) [
      | Less ↦ inr i
      | Equal ↦ i
      | Greater ↦ elim i as (λ _. In q (x ∷ insert_key R xs k)) [ inl e ↦ inl e | inr i ↦ inr (kept_in R xs k q i) ]
    ]

pub put_in : {K : Type 0} (R : K → K → Ordering) → CmpEqualImpliesEq R → (ks : List K) (k : K) → In k (insert_key R ks k)
put_in R exact [] k = inl refl
put_in {K} R exact (x ∷ xs) k =
    (elim (R k x) as (λ o. R k x ≡ o → In k (match_ordering o (k ∷ x ∷ xs) (x ∷ xs) (x ∷ insert_key R xs k))) [
      | Less ↦ λ e. inl refl
      | Equal ↦ λ e. inl (sym (exact k x e))
      | Greater ↦ λ e. inr (put_in R exact xs k)
    ]) refl

pub only_in : {K : Type 0} (R : K → K → Ordering) (ks : List K) (k q : K) → In q (insert_key R ks k) → In q ks ⊎ (k ≡ q)
only_in R [] k q i = elim i [ inl e ↦ inr e | inr i ↦ absurd i ]
only_in {K} R (x ∷ xs) k q i =
    (elim (R k x) as (λ o. In q (match_ordering o (k ∷ x ∷ xs) (x ∷ xs) (x ∷ insert_key R xs k)) → In q (x ∷ xs) ⊎ (k ≡ q)) [
      | Less ↦ λ j. elim j [ inl e ↦ inr e | inr j ↦ inl j ]
      | Equal ↦ λ j. inl j
      | Greater ↦ λ j. elim j [
        | inl e ↦ inl (inl e)
        | inr j ↦ elim (only_in R xs k q j) [ inl m ↦ inl (inr m) | inr e ↦ inr e ]
      ]
    ]) i
