-- Where as many keys as there are places have each a place of its own, each place has a key.
use Rattle.std.proofs.Common.{◌≡◌, inl, inr, ℕ, zero, suc, ◌+◌, ◌<◌, ◌≤◌, ◌==◌, Bool, true, false, not, List, [], ◌∷◌, ◌++◌, length, map, filter, refl, ap, ◌∙◌, subst, arith}
use Rattle.std.specs.Prelude.{Option, Some}
use Rattle.std.specs.List.{flat_map, range_with_len}
use Rattle.std.proofs.lemmas.Bool.{cases_eq, eqb-true, eq-eqb}
use Rattle.std.proofs.lemmas.List.Sums.{length-filter}
use Rattle.ss_review.proofs.of_lists.EqualCounts.{count_by-all}
use Rattle.ss_octets.proofs.Members.{Has, has-filter, has-append_cases, from_has-map, from_has-flat_map}
use Rattle.ss_review.proofs.of_assignment.OnePlaceOneKey.{count_by-fewer}
use Rattle.ss_review.proofs.of_lists.Tests.{from_in_range}

-- ---- lists with each member once

abbrev pub AreDistinct : {X : Type 0} → List X → Type 0
AreDistinct [] = Unit {0}
AreDistinct (x ∷ xs) = (Has xs x → ⊥) × AreDistinct xs

pub distinct-append : {X : Type 0} (xs ys : List X) → AreDistinct xs → AreDistinct ys → ((x : X) → Has xs x → Has ys x → ⊥) → AreDistinct (xs ++ ys)
distinct-append [] ys d e apart = e
distinct-append (x ∷ xs) ys d e apart = (first, distinct-append xs ys d.1 e (λ y h. apart y (inr h)))
  where
    first : Has (xs ++ ys) x → ⊥
    first h = elim (has-append_cases xs ys x h) [ inl l ↦ d.0 l | inr r ↦ apart x (inl refl) r ]

pub distinct-map : {X Y : Type 0} (f : X → Y) → ((x z : X) → f x ≡ f z → x ≡ z) → (xs : List X) → AreDistinct xs → AreDistinct (map f xs)
distinct-map f one [] d = tt
distinct-map {X} f one (x ∷ xs) d = (first, distinct-map f one xs d.1)
  where
    first : Has (map f xs) (f x) → ⊥
    first h =
        let w : (z : X) × Has xs z × (f z ≡ f x) = from_has-map f xs (f x) h in
        d.0 (subst (Has xs) (one w.0 x w.2) w.1)

pub distinct-flat_map : {X Y : Type 0} (f : X → List Y) → ((x : X) → AreDistinct (f x)) → ((x z : X) (y : Y) → Has (f x) y → Has (f z) y → x ≡ z) → (xs : List X) → AreDistinct xs → AreDistinct (flat_map f xs)
distinct-flat_map f each one [] d = tt
distinct-flat_map {X} {Y} f each one (x ∷ xs) d = distinct-append (f x) (flat_map f xs) (each x) (distinct-flat_map f each one xs d.1) apart
  where
    apart : (y : Y) → Has (f x) y → Has (flat_map f xs) y → ⊥
    apart y h i =
        let w : (z : X) × Has xs z × Has (f z) y = from_has-flat_map f xs y i in
        d.0 (subst (Has xs) (one w.0 x y w.2 h) w.1)

pub distinct-range : (a n : ℕ) → AreDistinct (range_with_len a n)
distinct-range a zero = tt
distinct-range a (suc n) = (λ h. (let r = from_in_range (a + 1) n a h in omega (arith, r.0)), distinct-range (a + 1) n)

-- ---- keys with places

abbrev others : ℕ → List ℕ → List ℕ
others a ps = filter (λ q. not (a == q)) ps

not_itself : (a : ℕ) → not (a == a) ≡ false
not_itself a = ap not (eq-eqb a a refl)

fewer_others : (a : ℕ) (ps : List ℕ) → Has ps a → length (others a ps) < length ps
fewer_others a ps h =
    let less = count_by-fewer (λ q. not (a == q)) (λ q. true) (λ q t. refl) ps a h (not_itself a) refl in
    omega (arith, less, length-filter (λ q. not (a == q)) ps, count_by-all ps)

is_other : (a q : ℕ) (b : Bool) → (a == q) ≡ b → (a ≡ q → ⊥) → not (a == q) ≡ true
is_other a q true e apart = absurd (apart (eqb-true a q e))
is_other a q false e apart = ap not e

module _ {K : Type 0} (place : K → Option ℕ) (one : (k j : K) (p : ℕ) → place k ≡ Some p → place j ≡ Some p → k ≡ j) where
  pub all_taken : (ks : List K) (ps : List ℕ) → AreDistinct ks → ((k : K) → Has ks k → (p : ℕ) × Has ps p × (place k ≡ Some p)) → length ps ≤ length ks → (p : ℕ) → Has ps p → (k : K) × Has ks k × (place k ≡ Some p)
  all_taken [] [] d each fits p h = absurd h
  all_taken [] (q ∷ ps) d each fits p h = absurd (omega (arith, fits))
  all_taken (k ∷ ks) ps d each fits p h =
      let own : (a : ℕ) × Has ps a × (place k ≡ Some a) = each k (inl refl) in
      let fewer = fewer_others own.0 ps own.1 in
      elim (cases_eq own.0 p) [
        | inl e ↦ (k, inl refl, own.2 ∙ ap (λ (a : ℕ). Some a) e)
        | inr apart ↦ (let w : (j : K) × Has ks j × (place j ≡ Some p)
            = all_taken ks (others own.0 ps) d.1 rest (omega (arith, fewer, fits)) p (has-filter (λ q. not (own.0 == q)) ps p h (is_other own.0 p (own.0 == p) refl (λ e. omega (arith, apart, e)))) in
            (w.0, inr w.1, w.2))
      ]
    where
      rest : (j : K) → Has ks j → (q : ℕ) × Has (others (each k (inl refl)).0 ps) q × (place j ≡ Some q)
      rest j i =
          let a = (each k (inl refl)).0 in
          let w : (q : ℕ) × Has ps q × (place j ≡ Some q) = each j (inr i) in
          let apart : a ≡ w.0 → ⊥ = λ e. d.0 (subst (Has ks) (one j k w.0 w.2 ((each k (inl refl)).2 ∙ ap (λ (q : ℕ). Some q) e)) i) in
          (w.0, has-filter (λ q. not (a == q)) ps w.0 w.1 (is_other a w.0 (a == w.0) refl apart), w.2)
