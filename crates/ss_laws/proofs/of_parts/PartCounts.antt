-- The places of parts are all places, each once.
use Rattle.std.proofs.Common.{◌≡◌, inl, inr, ℕ, zero, suc, ◌+◌, ◌<◌, ◌≤◌, ◌==◌, false, cond, List, [], ◌∷◌, length, map, refl, sym, ap, ◌∙◌, arith}
use Rattle.std.specs.Prelude.{sum_by, count_by}
use Rattle.std.specs.List.{range_with_len}
use Rattle.std.proofs.lemmas.Bool.{cases_eq, eq-eqb, eqb-true, false_from_ne_true}
use Rattle.std.proofs.lemmas.List.Sums.{sum_by-cons}
use Rattle.ss_octets.proofs.Members.{Has}
use Rattle.ss_review.proofs.of_lists.Counting.{count_by-cons}

-- ---- sums

pub sum_by-map : {X Y : Type 0} (f : Y → ℕ) (g : X → Y) (xs : List X) → sum_by f (map g xs) ≡ sum_by (λ x. f (g x)) xs
sum_by-map f g [] = refl
sum_by-map f g (x ∷ xs) =
    sum_by-cons f (g x) (map g xs) ∙ ap (λ n. f (g x) + n) (sum_by-map f g xs) ∙ sym (sum_by-cons (λ y. f (g y)) x xs)

sum_by-added : {X : Type 0} (f g : X → ℕ) (xs : List X) → sum_by (λ x. f x + g x) xs ≡ sum_by f xs + sum_by g xs
sum_by-added f g [] = refl
sum_by-added f g (x ∷ xs) =
    omega (arith, sum_by-added f g xs, sum_by-cons (λ y. f y + g y) x xs, sum_by-cons f x xs, sum_by-cons g x xs)

sum_of_none : {X : Type 0} (xs : List X) → sum_by (λ (x : X). 0) xs ≡ 0
sum_of_none [] = refl
sum_of_none {X} (x ∷ xs) = omega (arith, sum_of_none xs, sum_by-cons (λ (y : X). 0) x xs)

-- ---- the one part of a place

none_of : (p a n : ℕ) → p < a → sum_by (λ k. cond (p == k) 1 0) (range_with_len a n) ≡ 0
none_of p a zero below = refl
none_of p a (suc n) below =
    let apart : (p == a) ≡ false = false_from_ne_true (p == a) (λ e. absurd (omega (arith, eqb-true p a e))) in
    let one : ◌≡◌ {A = ℕ} (cond (p == a) 1 0) 0 = ap (λ b. cond b 1 0) apart in
    omega (arith, one, none_of p (a + 1) n (omega arith), sum_by-cons (λ k. cond (p == k) 1 0) a (range_with_len (a + 1) n))

one_of : (p a n : ℕ) → a ≤ p → p < a + n → sum_by (λ k. cond (p == k) 1 0) (range_with_len a n) ≡ 1
one_of p a zero low high = absurd (omega arith)
one_of p a (suc n) low high =
    elim (cases_eq p a) [
      | inl e ↦ (let one : ◌≡◌ {A = ℕ} (cond (p == a) 1 0) 1 = ap (λ b. cond b 1 0) (eq-eqb p a e) in
          omega (arith, one, none_of p (a + 1) n (omega (arith, e)), sum_by-cons (λ k. cond (p == k) 1 0) a (range_with_len (a + 1) n)))
      | inr apart ↦ (let one : ◌≡◌ {A = ℕ} (cond (p == a) 1 0) 0 = ap (λ b. cond b 1 0) (false_from_ne_true (p == a) (λ e. apart (eqb-true p a e))) in
          omega (arith, one, one_of p (a + 1) n (omega (arith, apart)) (omega arith), sum_by-cons (λ k. cond (p == k) 1 0) a (range_with_len (a + 1) n)))
    ]

-- each place is counted in one part
pub counts_add_up : (part : ℕ → ℕ) (parts : ℕ) (xs : List ℕ) → ((x : ℕ) → Has xs x → part x < parts)
    → sum_by (λ k. count_by (λ x. part x == k) xs) (range_with_len 0 parts) ≡ length xs
counts_add_up part parts [] within = sum_of_none (range_with_len 0 parts)
counts_add_up part parts (x ∷ xs) within =
    let split : sum_by (λ k. count_by (λ y. part y == k) (x ∷ xs)) (range_with_len 0 parts)
    ≡ sum_by (λ k. cond (part x == k) 1 0 + count_by (λ y. part y == k) xs) (range_with_len 0 parts)
    = ap (λ (f : ℕ → ℕ). sum_by f (range_with_len 0 parts)) (λ i k. count_by-cons (λ y. part y == k) x xs i) in
    omega (
      arith,
      split,
      sum_by-added (λ k. cond (part x == k) 1 0) (λ k. count_by (λ y. part y == k) xs) (range_with_len 0 parts),
      one_of (part x) 0 parts (omega arith) (omega (arith, within x (inl refl))),
      counts_add_up part parts xs (λ y h. within y (inr h)),
    )
