-- Tests of some and of all members of a list, and the members of a range.
use Rattle.std.proofs.Common.{◌≡◌, ℕ, zero, suc, ◌+◌, ◌<◌, ◌≤◌, inl, inr, Bool, true, false, List, [], ◌∷◌, refl, sym, ap, ◌∙◌, arith}
use Rattle.std.specs.List.{list_any, list_all, range_with_len}
use Rattle.std.proofs.lemmas.Bool.{cases_eq, and_cases, and_from, and_parts, or_cases, or_left, or_right}
use Rattle.ss_octets.proofs.Members.{Has}

-- ---- some member

pub any_member : {X : Type 0} (f : X → Bool) (xs : List X) → list_any f xs ≡ true → (x : X) × Has xs x × (f x ≡ true)
any_member f [] e = cc
any_member {X} f (x ∷ xs) e =
    elim (or_cases (f x) (list_any f xs) e) [
      | inl t ↦ (x, inl refl, t)
      | inr r ↦ (let w : (y : X) × Has xs y × (f y ≡ true) = any_member f xs r in (w.0, inr w.1, w.2))
    ]

pub member_any : {X : Type 0} (f : X → Bool) (xs : List X) (x : X) → Has xs x → f x ≡ true → list_any f xs ≡ true
member_any f [] x h t = absurd h
member_any f (y ∷ ys) x (inl e) t = or_left (f y) (list_any f ys) (ap f e ∙ t)
member_any f (y ∷ ys) x (inr h) t = or_right (f y) (list_any f ys) (member_any f ys x h t)

-- ---- all members

pub all_member : {X : Type 0} (f : X → Bool) (xs : List X) → list_all f xs ≡ true → (x : X) → Has xs x → f x ≡ true
all_member f [] e x h = absurd h
all_member f (y ∷ ys) e x (inl i) = ap f (sym i) ∙ (and_parts (f y) (list_all f ys) e).0
all_member f (y ∷ ys) e x (inr h) = all_member f ys (and_parts (f y) (list_all f ys) e).1 x h

pub member_all : {X : Type 0} (f : X → Bool) (xs : List X) → ((x : X) → Has xs x → f x ≡ true) → list_all f xs ≡ true
member_all f [] a = refl
member_all f (y ∷ ys) a = and_from (f y) (list_all f ys) (a y (inl refl)) (member_all f ys (λ x h. a x (inr h)))

pub not_all : {X : Type 0} (f : X → Bool) (xs : List X) → list_all f xs ≡ false → (x : X) × Has xs x × (f x ≡ false)
not_all f [] e = cc
not_all {X} f (y ∷ ys) e =
    elim (and_cases (f y) (list_all f ys) e) [
      | inl t ↦ (y, inl refl, t)
      | inr r ↦ (let w : (x : X) × Has ys x × (f x ≡ false) = not_all f ys r in (w.0, inr w.1, w.2))
    ]

-- ---- ranges

pub in_range : (a n i : ℕ) → a ≤ i → i < a + n → Has (range_with_len a n) i
in_range a zero i low high = absurd (omega arith)
in_range a (suc n) i low high =
    elim (cases_eq a i) [ inl e ↦ inl e | inr apart ↦ inr (in_range (a + 1) n i (omega (arith, apart)) (omega arith)) ]

pub from_in_range : (a n i : ℕ) → Has (range_with_len a n) i → (a ≤ i) × (i < a + n)
from_in_range a zero i h = absurd h
from_in_range a (suc n) i (inl e) = (omega (arith, e), omega (arith, e))
from_in_range a (suc n) i (inr h) =
    let r : (a + 1 ≤ i) × (i < a + 1 + n) = from_in_range (a + 1) n i h in
    (omega (arith, r.0), omega (arith, r.1))
