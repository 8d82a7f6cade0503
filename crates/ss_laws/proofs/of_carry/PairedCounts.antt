-- Counts of elements that belong together, each of one list with one of the other.
use Rattle.std.proofs.Common.{◌≡◌, inl, inr, ℕ, ◌+◌, ◌≤◌, Bool, true, false, cond, List, [], ◌∷◌, ◌++◌, map, refl, ap, subst, arith}
use Rattle.std.specs.Prelude.{count_by}
use Rattle.std.specs.declared.cmp.Ordering.{Ordering}
use Rattle.std.specs.declared.cmp.Ordering.TheVariants.{Less}
use Rattle.std.specs.Cmp.{IsTotalOrder}
use Rattle.std.specs.List.Sorted.{IsStrictlySortedBy}
use Rattle.std.proofs.lemmas.Bool.{cases_Bool}
use Rattle.ss_octets.proofs.Members.{Has, has_split, has-append_left, has-append_right, has-map, has-append_cases, all-has}
use Rattle.ss_review.proofs.of_lists.Rising.{not_less_itself}
use Rattle.ss_review.proofs.of_lists.Counting.{count_by-cons}
use Rattle.ss_review.proofs.of_lists.Sums.{count_by-append}
use Rattle.ss_review.proofs.of_assignment.FullPlaces.{AreDistinct}

-- ---- lists that rise have each member once

pub distinct_rising : {K : Type 0} {R : K → K → Ordering} (o : IsTotalOrder R) (ks : List K) → IsStrictlySortedBy R ks → AreDistinct ks
unfolding IsStrictlySortedBy
distinct_rising o [] up = tt
distinct_rising {R = R} o (k ∷ ks) up = (λ h. not_less_itself o k (all-has (λ j. R k j ≡ Less) ks k up.0 h), distinct_rising o ks up.1)

pub distinct_by_key : {X K : Type 0} {R : K → K → Ordering} (o : IsTotalOrder R) (key : X → K) (xs : List X) → IsStrictlySortedBy R (map key xs) → AreDistinct xs
unfolding IsStrictlySortedBy
distinct_by_key o key [] up = tt
distinct_by_key {R = R} o key (x ∷ xs) up =
    (λ h. not_less_itself o (key x) (all-has (λ k. R (key x) k ≡ Less) (map key xs) (key x) up.0 (has-map key xs x h)), distinct_by_key o key xs up.1)

-- ---- counts

-- where each that passes has another to itself that passes, those are no fewer
pub count-le : {X Y : Type 0} (f : X → Bool) (g : Y → Bool) (R : X → Y → Type 0) (xs : List X) (ys : List Y) → AreDistinct xs
    → ((x : X) → Has xs x → f x ≡ true → (y : Y) × Has ys y × (g y ≡ true) × R x y)
    → ((x z : X) (y : Y) → R x y → R z y → x ≡ z)
    → count_by f xs ≤ count_by g ys
count-le f g R [] ys d there one = omega arith
count-le {X} {Y} f g R (x ∷ xs) ys d there one =
    elim (cases_Bool (f x)) [
      | inl t ↦ passes t (λ zs each. count-le f g R xs zs d.1 each one)
      | inr e ↦ fails e (count-le f g R xs ys d.1 (λ z h. there z (inr h)) one)
    ]
  where
    fails : f x ≡ false → count_by f xs ≤ count_by g ys → count_by f (x ∷ xs) ≤ count_by g ys
    fails e rest =
        let first : cond {A = ℕ} (f x) 1 0 ≡ 0 = ap (λ b. cond b 1 0) e in
        omega (arith, rest, first, count_by-cons f x xs)

    passes : f x ≡ true
        → ((zs : List Y) → ((z : X) → Has xs z → f z ≡ true → (y : Y) × Has zs y × (g y ≡ true) × R z y) → count_by f xs ≤ count_by g zs)
        → count_by f (x ∷ xs) ≤ count_by g ys
    passes t fewer = omega (arith, rest, first, other, all, count_by-cons f x xs, count_by-cons g w.0 cut.1, parted, joined)
      where
        w : (y : Y) × Has ys y × (g y ≡ true) × R x y
        w = there x (inl refl) t

        cut : (front : List Y) × (behind : List Y) × (ys ≡ front ++ w.0 ∷ behind)
        cut = has_split ys w.0 w.1

        elsewhere : (z : X) → Has xs z → (y : Y) → R z y → Has ys y → Has (cut.0 ++ cut.1) y
        elsewhere z h y r i =
            elim (has-append_cases cut.0 (w.0 ∷ cut.1) y (subst (λ l. Has l y) cut.2 i)) [
              | inl l ↦ has-append_left cut.0 cut.1 y l
              | inr (inl e) ↦ absurd (d.0 (subst (Has xs) (one z x y r (subst (R x) e w.3)) h))
              | inr (inr j) ↦ has-append_right cut.0 cut.1 y j
            ]

        rest : count_by f xs ≤ count_by g (cut.0 ++ cut.1)
        rest =
            fewer (cut.0 ++ cut.1)
            (λ z h s. (let v : (y : Y) × Has ys y × (g y ≡ true) × R z y = there z (inr h) s in (v.0, elsewhere z h v.0 v.3 v.1, v.2, v.3)))

        first : cond {A = ℕ} (f x) 1 0 ≡ 1
        first = ap (λ b. cond b 1 0) t

        other : cond {A = ℕ} (g w.0) 1 0 ≡ 1
        other = ap (λ b. cond b 1 0) w.2

        all : count_by g ys ≡ count_by g (cut.0 ++ w.0 ∷ cut.1)
        all = ap (count_by g) cut.2

        parted : count_by g (cut.0 ++ w.0 ∷ cut.1) ≡ count_by g cut.0 + count_by g (w.0 ∷ cut.1)
        parted = count_by-append g cut.0 (w.0 ∷ cut.1)

        joined : count_by g (cut.0 ++ cut.1) ≡ count_by g cut.0 + count_by g cut.1
        joined = count_by-append g cut.0 cut.1

-- where each that passes belongs to one of the other list that passes, both ways, they are as many
pub count-paired : {X Y : Type 0} (f : X → Bool) (g : Y → Bool) (R : X → Y → Type 0) (xs : List X) (ys : List Y) → AreDistinct xs → AreDistinct ys
    → ((x : X) → Has xs x → f x ≡ true → (y : Y) × Has ys y × (g y ≡ true) × R x y)
    → ((y : Y) → Has ys y → g y ≡ true → (x : X) × Has xs x × (f x ≡ true) × R x y)
    → ((x z : X) (y : Y) → R x y → R z y → x ≡ z)
    → ((x : X) (y z : Y) → R x y → R x z → y ≡ z)
    → count_by f xs ≡ count_by g ys
count-paired f g R xs ys d e there back one other =
    let up = count-le f g R xs ys d there one in
    let down = count-le g f (λ y x. R x y) ys xs e back (λ y z x r s. other x y z r s) in
    omega (arith, up, down)
