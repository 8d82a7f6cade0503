-- A list whose items are replaced one after the other.
use Rattle.std.proofs.Common.{◌≡◌, ℕ, suc, ◌+◌, ◌<◌, ◌≤◌, Bool, true, false, List, ◌∷◌, [], ◌++◌, length, map, take, drop, get_or, set, sym, ap, ◌∙◌, subst, add-one, drop-cons, arith, refl, below_more}
use Rattle.std.specs.Prelude.{Option, Some, None}
use Rattle.std.specs.List.{position, position_or_len}
use Rattle.std.proofs.lemmas.List.{get_or_default, map-append, take_more, take_more_set, drop-set-lt}
use Rattle.std.proofs.lemmas.List.Sums.{position_or_len_is}

module _ {X : Type 0} (f : X → X) where
  -- one item more is replaced
  pub one_more : (xs first : List X) (i : ℕ) (item y : X)
      → i < length xs
      → i < length first
      → take i xs ≡ map f (take i first)
      → drop i xs ≡ drop i first
      → item ≡ get_or xs i item
      → y ≡ f item
      → (take (i + 1) (set xs i y) ≡ map f (take (i + 1) first)) × (drop (i + 1) (set xs i y) ≡ drop (i + 1) first)
  one_more xs first i item y less within done left here made =
      let both : get_or xs i item ∷ drop (suc i) xs ≡ get_or first i item ∷ drop (suc i) first
      = sym (drop-cons xs i item less) ∙ left ∙ drop-cons first i item within in
      let same : get_or xs i item ≡ get_or first i item = ap (λ ys. get_or ys 0 item) both in
      let behind : drop (suc i) xs ≡ drop (suc i) first = ap (drop 1) both in
      let now : y ≡ f (get_or first i item) = made ∙ ap f (here ∙ same) in (
        take_more_set xs i y less
            ∙ ap (λ ys. ys ++ y ∷ []) done
            ∙ ap (λ z. map f (take i first) ++ z ∷ []) now
            ∙ sym (map-append f (take i first) (get_or first i item ∷ []))
            ∙ ap (map f) (sym (take_more first i item within)),
        drop-set-lt (i + 1) xs i y (omega arith) ∙ ap (λ k. drop k xs) (add-one i) ∙ behind ∙ ap (λ k. drop k first) (sym (add-one i)),
      )

-- the item that comes next stands there
pub stands_next : {X : Type 0} (xs first : List X) (i : ℕ) (item d : X)
    → i < length xs
    → i < length first
    → drop i xs ≡ drop i first
    → item ≡ get_or xs i item
    → item ≡ get_or first i d
stands_next xs first i item d less within left here =
    let both : get_or xs i item ∷ drop (suc i) xs ≡ get_or first i item ∷ drop (suc i) first
    = sym (drop-cons xs i item less) ∙ left ∙ drop-cons first i item within in
    here ∙ ap (λ ys. get_or ys 0 item) both ∙ get_or_default first i item d within

-- the first that passes
pub first_there : {X : Type 0} (p : X → Bool) (xs : List X) (i : ℕ) (d : X)
    → i < length xs
    → ((k : ℕ) → k < i → p (get_or xs k d) ≡ false)
    → p (get_or xs i d) ≡ true
    → position p xs ≡ Some i
first_there p xs i d less before passes =
    let is : position_or_len p xs ≡ i = position_or_len_is p xs i d (omega arith) before (λ _. passes) in
    rw is (grind (arith, less))

-- none passes
pub none_there : {X : Type 0} (p : X → Bool) (xs : List X) (d : X)
    → ((k : ℕ) → k < length xs → p (get_or xs k d) ≡ false)
    → position p xs ≡ None
none_there p xs d fails =
    let is : position_or_len p xs ≡ length xs = position_or_len_is p xs (length xs) d (omega arith) fails (λ less. absurd (omega arith)) in
    rw is (grind arith)
