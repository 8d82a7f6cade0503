-- Sums and counts: of joined lists, of sums of two, and of equal terms.
use Rattle.std.proofs.Common.{◌≡◌, ℕ, zero, suc, ◌+◌, ◌<◌, ◌≤◌, ◌⊎◌, inl, inr, Bool, cond, eqb, List, [], ◌∷◌, ◌++◌, refl, sym, ap, ◌∙◌, arith}
use Rattle.std.specs.Prelude.{◌≢◌, count_by}
use Rattle.std.specs.List.{sum_by, flat_map, enumerate_from, range_with_len}
use Rattle.std.proofs.lemmas.Bool.{cases_eq, eq-eqb, ne_eqb}
use Rattle.std.proofs.lemmas.List.Sums.{sum_by-cons, sum_by-append}
use Rattle.ss_review.proofs.of_lists.Counting.{count_by-cons}
use Rattle.ss_octets.proofs.Members.{Has}

-- ---- sums

-- a sum of two terms is the two sums together
pub sum_by-added : {X : Type 0} (f g : X → ℕ) (xs : List X) → sum_by (λ x. f x + g x) xs ≡ sum_by f xs + sum_by g xs
sum_by-added f g [] = refl
sum_by-added f g (x ∷ xs) =
    omega (arith, sum_by-cons (λ y. f y + g y) x xs, sum_by-cons f x xs, sum_by-cons g x xs, sum_by-added f g xs)

-- sums of equal terms are equal
pub sum_by-same : {X : Type 0} (f g : X → ℕ) (xs : List X) → ((x : X) → Has xs x → f x ≡ g x) → sum_by f xs ≡ sum_by g xs
sum_by-same f g [] e = refl
sum_by-same f g (x ∷ xs) e =
    omega (arith, sum_by-cons f x xs, sum_by-cons g x xs, e x (inl refl), sum_by-same f g xs (λ y h. e y (inr h)))

-- of terms that are 0 the sum is 0
pub sum_by-none : {X : Type 0} (xs : List X) → sum_by (λ (x : X). 0) xs ≡ 0
sum_by-none [] = refl
sum_by-none {X} (x ∷ xs) = omega (arith, sum_by-cons (λ (y : X). 0) x xs, sum_by-none xs)

-- ---- one number of a range

-- the term of one number, which is 0 at each other
abbrev at_one : ℕ → ℕ → ℕ → ℕ
at_one s n i = cond (eqb s i) n 0

at_one_here : (s n a : ℕ) → s ≡ a → at_one s n a ≡ n
at_one_here s n a e = ap (λ b. cond b n 0) (eq-eqb s a e)

at_one_apart : (s n a : ℕ) → (s ≡ a → ⊥) → at_one s n a ≡ 0
at_one_apart s n a apart = ap (λ b. cond b n 0) (ne_eqb s a apart)

-- a range that begins above a number does not have it
none_is : (s n a length : ℕ) → s < a → sum_by (at_one s n) (range_with_len a length) ≡ 0
none_is s n a zero above = refl
none_is s n a (suc length) above =
    omega (arith, sum_by-cons (at_one s n) a (range_with_len (a + 1) length), at_one_apart s n a (λ e. omega (arith, e)), none_is s n (a + 1) length (omega arith))

one_at : (s n a length : ℕ) → (s ≡ a) ⊎ (s ≡ a → ⊥) → (s ≢ a → sum_by (at_one s n) (range_with_len (a + 1) length) ≡ n) → at_one s n a + sum_by (at_one s n) (range_with_len (a + 1) length) ≡ n
one_at s n a length (inl e) later = omega (arith, at_one_here s n a e, none_is s n (a + 1) length (omega (arith, e)))
one_at s n a length (inr apart) later = omega (arith, at_one_apart s n a apart, later apart)

-- a range that has it has it once
pub one_is : (s n a length : ℕ) → a ≤ s → s < a + length → sum_by (λ i. cond (eqb s i) n 0) (range_with_len a length) ≡ n
one_is s n a zero low high = absurd (omega arith)
one_is s n a (suc length) low high =
    sum_by-cons (at_one s n) a (range_with_len (a + 1) length)
    ∙ one_at s n a length (cases_eq s a) (λ apart. one_is s n (a + 1) length (omega (arith, apart)) (omega arith))

-- ---- counts

pub count_by-append : {X : Type 0} (f : X → Bool) (xs ys : List X) → count_by f (xs ++ ys) ≡ count_by f xs + count_by f ys
count_by-append f xs ys = sum_by-append (λ x. cond (f x) 1 0) xs ys

-- counts of tests that agree are equal
pub count_by-same : {X : Type 0} (f g : X → Bool) (xs : List X) → ((x : X) → Has xs x → f x ≡ g x) → count_by f xs ≡ count_by g xs
count_by-same f g xs e = sum_by-same (λ x. cond (f x) 1 0) (λ x. cond (g x) 1 0) xs (λ x h. ap (λ b. cond b 1 0) (e x h))

-- a count over lists behind one another is the sum of theirs
pub count_by-flat_map : {X Y : Type 0} (f : Y → Bool) (g : X → List Y) (xs : List X) → count_by f (flat_map g xs) ≡ sum_by (λ x. count_by f (g x)) xs
count_by-flat_map f g [] = refl
count_by-flat_map f g (x ∷ xs) =
    count_by-append f (g x) (flat_map g xs)
    ∙ ap (λ n. count_by f (g x) + n) (count_by-flat_map f g xs)
    ∙ sym (sum_by-cons (λ y. count_by f (g y)) x xs)

-- elements are counted alike with their numbers and without
pub count_by-numbered : {X : Type 0} (f : X → Bool) (k : ℕ) (xs : List X) → count_by (λ (n : ℕ × X). f n.1) (enumerate_from k xs) ≡ count_by f xs
count_by-numbered f k [] = refl
count_by-numbered {X} f k (x ∷ xs) =
    count_by-cons (λ (n : ℕ × X). f n.1) (k, x) (enumerate_from (k + 1) xs)
    ∙ ap (λ n. cond (f x) 1 0 + n) (count_by-numbered f (k + 1) xs)
    ∙ sym (count_by-cons f x xs)
