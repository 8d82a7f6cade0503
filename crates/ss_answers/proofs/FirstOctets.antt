-- Octets whose first eight differ have the order of these as numbers.
use Rattle.std.proofs.Common.{◌≡◌, ◌≢◌, ℕ, zero, suc, ◌+◌, ◌*◌, ◌<◌, ◌≤◌, List, [], ◌∷◌, length, take, get_or, refl, sym, ap, ◌∙◌, arith}
use Rattle.std.specs.Cmp.Lexicographic.{slice_cmp}
use Rattle.std.specs.Int.{w64, from_be_bytes}
use Rattle.std.specs.Ordering.{nat_cmp, ordering_then}
use Rattle.std.specs.declared.cmp.Ordering.{Ordering}
use Rattle.std.specs.declared.cmp.Ordering.TheVariants.{Less, Equal, Greater}
use Rattle.ss_answers.specs.AnswerKey.{IsFirstNumber}

-- the number that goes on with the first n octets, the greatest first
abbrev number_from : ℕ → ℕ → List ℕ → ℕ
number_from zero p xs = p
number_from (suc n) p [] = p
number_from (suc n) p (x ∷ xs) = number_from n (p * 256 + x) xs

then_then : (a b c : Ordering) → ordering_then a (ordering_then b c) ≡ ordering_then (ordering_then a b) c
then_then Less b c = refl
then_then Equal b c = refl
then_then Greater b c = refl

-- one octet more
longer : (p q x y : ℕ) → x < 256 → y < 256 → ordering_then (nat_cmp p q) (nat_cmp x y) ≡ nat_cmp (p * 256 + x) (q * 256 + y)
longer p q x y a b = grind arith

apart : (p q : ℕ) (o : Ordering) → p ≢ q → ordering_then (nat_cmp p q) o ≡ nat_cmp p q
apart p q o e = grind arith

goes_on : (n p q : ℕ) (xs ys : List ℕ) → n ≤ length xs → n ≤ length ys → ((i : ℕ) → get_or xs i 0 < 256) → ((i : ℕ) → get_or ys i 0 < 256)
    → number_from n p xs ≢ number_from n q ys → ordering_then (nat_cmp p q) (slice_cmp nat_cmp xs ys) ≡ nat_cmp (number_from n p xs) (number_from n q ys)
goes_on zero p q xs ys m k a b e = apart p q (slice_cmp nat_cmp xs ys) e
goes_on (suc n) p q [] ys m k a b e = absurd (omega arith)
goes_on (suc n) p q (x ∷ xs) [] m k a b e = absurd (omega arith)
goes_on (suc n) p q (x ∷ xs) (y ∷ ys) m k a b e =
    let later = goes_on n (p * 256 + x) (q * 256 + y) xs ys (omega arith) (omega arith) (λ i. a (suc i)) (λ i. b (suc i)) e in
    then_then (nat_cmp p q) (nat_cmp x y) (slice_cmp nat_cmp xs ys)
    ∙ ap (λ o. ordering_then o (slice_cmp nat_cmp xs ys)) (longer p q x y (a 0) (b 0)) ∙ later

first_eight : (xs : List ℕ) → 8 ≤ length xs → from_be_bytes w64 (take 8 xs) ≡ number_from 8 0 xs
first_eight [] l = absurd (omega arith)
first_eight (a ∷ []) l = absurd (omega arith)
first_eight (a ∷ b ∷ []) l = absurd (omega arith)
first_eight (a ∷ b ∷ c ∷ []) l = absurd (omega arith)
first_eight (a ∷ b ∷ c ∷ d ∷ []) l = absurd (omega arith)
first_eight (a ∷ b ∷ c ∷ d ∷ e ∷ []) l = absurd (omega arith)
first_eight (a ∷ b ∷ c ∷ d ∷ e ∷ f ∷ []) l = absurd (omega arith)
first_eight (a ∷ b ∷ c ∷ d ∷ e ∷ f ∷ g ∷ []) l = absurd (omega arith)
first_eight (a ∷ b ∷ c ∷ d ∷ e ∷ f ∷ g ∷ h ∷ xs) l = omega arith

pub first_numbers_decide : (xs ys : List ℕ) (m n : ℕ) → IsFirstNumber xs m → IsFirstNumber ys n → m ≢ n → nat_cmp m n ≡ slice_cmp nat_cmp xs ys
first_numbers_decide xs ys m n h k e =
    let x : m ≡ number_from 8 0 xs = h.value ∙ first_eight xs h.enough in
    let y : n ≡ number_from 8 0 ys = k.value ∙ first_eight ys k.enough in
    rw x (rw y (sym (goes_on 8 0 0 xs ys h.enough k.enough h.bytes k.bytes (λ same. e (x ∙ same ∙ sym y)))))
