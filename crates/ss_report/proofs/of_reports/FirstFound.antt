-- The first item that passes a test, and whether the lists of some items have anything.
use Rattle.std.proofs.Common.{◌≡◌, ℕ, zero, suc, ◌+◌, ◌<◌, Bool, true, false, Option, Some, None, List, [], ◌∷◌, ◌++◌, length, get_or, take, flat_map, refl, ap, ◌∙◌, arith}
use Rattle.std.specs.Prelude.{find, cond}
use Rattle.std.specs.Option.{is_some}
use Rattle.std.proofs.lemmas.List.{take_more}
use Rattle.std.proofs.lemmas.Grind.{flat_map-append}
use Rattle.ss_review.specs.declared.report.entry.Entry.{Entry}
use Rattle.ss_review.specs.declared.report.entry.Entry.TheVariants as entry
use Rattle.ss_review.specs.report.Extract.{place_listed}
use Rattle.ss_review.specs.report.Verdict.{is_listed, is_none}

-- ---- the first one

none_by : {X : Type 0} (x : X) (rest : Option X) (b : Bool) → cond b (Some x) rest ≡ None → (b ≡ false) × (rest ≡ None)
none_by x rest true none = absurd cc
none_by x rest false none = (refl, none)

some_by : {X : Type 0} (x : X) (rest : Option X) (b : Bool) → b ≡ true → cond b (Some x) rest ≡ Some x
some_by x rest true is = refl
some_by x rest false is = absurd cc

next_by : {X : Type 0} (x : X) (rest : Option X) (b : Bool) → b ≡ false → cond b (Some x) rest ≡ rest
next_by x rest true is = absurd cc
next_by x rest false is = refl

found_behind : {X : Type 0} (p : X → Bool) (xs ys : List X) → find p xs ≡ None → find p (xs ++ ys) ≡ find p ys
found_behind p [] ys none = refl
found_behind p (x ∷ xs) ys none =
    let both = none_by x (find p xs) (p x) none in
    next_by x (find p (xs ++ ys)) (p x) both.0 ∙ found_behind p xs ys both.1

-- none passes so far, and the next one doesn't
pub found_none_more : {X : Type 0} (p : X → Bool) (xs : List X) (i : ℕ) (d : X) → i < length xs → find p (take i xs) ≡ None → p (get_or xs i d) ≡ false → find p (take (i + 1) xs) ≡ None
found_none_more p xs i d within none next =
    let x = get_or xs i d in
    ap (find p) (take_more xs i d within) ∙ found_behind p (take i xs) (x ∷ []) none ∙ next_by x None (p x) next

-- none passes so far, and the next one does
pub found_there : {X : Type 0} (p : X → Bool) (xs : List X) (i : ℕ) (d : X) → i < length xs → find p (take i xs) ≡ None → p (get_or xs i d) ≡ true → find p xs ≡ Some (get_or xs i d)
found_there p [] i d within none is = absurd (omega (arith, within))
found_there p (x ∷ xs) zero d within none is = some_by x (find p xs) (p x) is
found_there p (x ∷ xs) (suc i) d within none is =
    let both = none_by x (find p (take i xs)) (p x) none in
    next_by x (find p xs) (p x) both.0 ∙ found_there p xs i d (omega (arith, within)) both.1 is

-- ---- lists of items

nothing_is : {Y : Type 0} (ys : List Y) → is_none ys ≡ true → ys ≡ []
nothing_is [] is = refl
nothing_is (y ∷ ys) is = absurd cc

some_front : {Y : Type 0} (ys zs : List Y) → is_none ys ≡ false → is_none (ys ++ zs) ≡ false
some_front [] zs is = absurd cc
some_front (y ∷ ys) zs is = refl

some_behind : {Y : Type 0} (ys zs : List Y) → is_none zs ≡ false → is_none (ys ++ zs) ≡ false
some_behind [] zs is = is
some_behind (y ∷ ys) zs is = refl

-- those so far have nothing, and the next one hasn't
pub all_none_more : {X Y : Type 0} (f : X → List Y) (xs : List X) (i : ℕ) (d : X) → i < length xs → flat_map f (take i xs) ≡ [] → is_none (f (get_or xs i d)) ≡ true → flat_map f (take (i + 1) xs) ≡ []
all_none_more f xs i d within none next =
    let x = get_or xs i d in
    ap (flat_map f) (take_more xs i d within) ∙ flat_map-append f (take i xs) (x ∷ [])
    ∙ (λ j. none j ++ (nothing_is (f x) next j ++ []))

-- one of them has something
pub some_of_all : {X Y : Type 0} (f : X → List Y) (xs : List X) (i : ℕ) (d : X) → i < length xs → is_none (f (get_or xs i d)) ≡ false → is_none (flat_map f xs) ≡ false
some_of_all f [] i d within is = absurd (omega (arith, within))
some_of_all f (x ∷ xs) zero d within is = some_front (f x) (flat_map f xs) is
some_of_all f (x ∷ xs) (suc i) d within is = some_behind (f x) (flat_map f xs) (some_of_all f xs i d (omega (arith, within)) is)

-- a listed message has a place
pub listed_has_place : (e : Entry) → is_some (place_listed e) ≡ is_listed e
listed_has_place (entry.Listed number place) = refl
listed_has_place (entry.Gap number why) = refl
listed_has_place (entry.Hole first last) = refl
