-- The greatest of what elements of a list say, and tests of elements, where the list is put together.
use Rattle.std.proofs.Common.{◌≡◌, ℕ, Bool, true, false, ◌||◌, max, fold, List, [], ◌∷◌, ◌++◌, map, filter, sym, ap, ◌∙◌, arith}
use Rattle.std.specs.List.{list_any}
use Rattle.std.proofs.lemmas.Bool.{or_right}
use Rattle.std.proofs.lemmas.List.{map-append}
use Rattle.std.proofs.lemmas.List.Elements.{filter-append}
use Rattle.std.proofs.lemmas.List.Folds.{list_any-append}

-- ---- the greatest number

pub greatest_from : (n : ℕ) (xs : List ℕ) → fold max n xs ≡ max n (fold max 0 xs)
greatest_from n [] = omega arith
greatest_from n (x ∷ xs) =
    let with_n : fold max (max n x) xs ≡ max (max n x) (fold max 0 xs) = greatest_from (max n x) xs in
    let without : fold max (max 0 x) xs ≡ max (max 0 x) (fold max 0 xs) = greatest_from (max 0 x) xs in
    omega (arith, with_n, without)

pub greatest_more : (x : ℕ) (xs : List ℕ) → fold max 0 (x ∷ xs) ≡ max x (fold max 0 xs)
greatest_more x xs =
    let from : fold max (max 0 x) xs ≡ max (max 0 x) (fold max 0 xs) = greatest_from (max 0 x) xs in omega (arith, from)

greatest_append : (xs ys : List ℕ) → fold max 0 (xs ++ ys) ≡ max (fold max 0 xs) (fold max 0 ys)
greatest_append [] ys = omega arith
greatest_append (x ∷ xs) ys =
    let all : fold max 0 (x ∷ (xs ++ ys)) ≡ max x (fold max 0 (xs ++ ys)) = greatest_more x (xs ++ ys) in
    let rest : fold max 0 (xs ++ ys) ≡ max (fold max 0 xs) (fold max 0 ys) = greatest_append xs ys in
    let front : fold max 0 (x ∷ xs) ≡ max x (fold max 0 xs) = greatest_more x xs in
    omega (arith, all, rest, front)

-- ---- of elements

module _ {X : Type 0} (f : X → ℕ) where
  abbrev pub greatest : List X → ℕ
  greatest xs = fold max 0 (map f xs)

  pub of_both : (xs ys : List X) → greatest (xs ++ ys) ≡ max (greatest xs) (greatest ys)
  of_both xs ys = ap (fold max 0) (map-append f xs ys) ∙ greatest_append (map f xs) (map f ys)

  max_swapped : (a b c : ℕ) → max a (max b c) ≡ max b (max a c)
  max_swapped a b c = omega arith

  -- of some elements among others
  pub of_all : (p : X → Bool) (front mid behind : List X) → filter p mid ≡ mid
      → greatest (filter p (front ++ (mid ++ behind))) ≡ max (greatest mid) (greatest (filter p (front ++ behind)))
  of_all p front mid behind own =
      ap greatest (filter-append p front (mid ++ behind))
      ∙ of_both (filter p front) (filter p (mid ++ behind))
      ∙ ap (λ xs. max (greatest (filter p front)) (greatest xs)) (filter-append p mid behind ∙ ap (λ xs. xs ++ filter p behind) own)
      ∙ ap (max (greatest (filter p front))) (of_both mid (filter p behind))
      ∙ max_swapped (greatest (filter p front)) (greatest mid) (greatest (filter p behind))
      ∙ ap (max (greatest mid)) (sym (ap greatest (filter-append p front behind) ∙ of_both (filter p front) (filter p behind)))

-- ---- tests

pub any_there : {X : Type 0} (p : X → Bool) (front : List X) (x : X) (behind : List X) → p x ≡ true → list_any p (front ++ x ∷ behind) ≡ true
any_there p [] x behind e = ap (λ b. b || list_any p behind) e
any_there p (y ∷ front) x behind e = or_right (p y) (list_any p (front ++ x ∷ behind)) (any_there p front x behind e)

-- elements that fail a test, among others
pub any_among : {X : Type 0} (p : X → Bool) (front mid behind : List X) → list_any p mid ≡ false
    → list_any p (front ++ (mid ++ behind)) ≡ list_any p (front ++ behind)
any_among p front mid behind none =
    list_any-append p front (mid ++ behind)
    ∙ ap (λ b. list_any p front || b) (list_any-append p mid behind ∙ ap (λ b. b || list_any p behind) none)
    ∙ sym (list_any-append p front behind)
