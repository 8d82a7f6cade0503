-- What filters, searches and joins make of a list that is mapped.
use Rattle.std.proofs.Common.{◌≡◌, inl, inr, Bool, true, false, cond, List, [], ◌∷◌, ◌++◌, map, filter, refl, ap, ◌∙◌}
use Rattle.std.specs.Prelude.{Option, Some, None, option_map, find}
use Rattle.std.specs.List.{flat_map, filter_map, cons_option}
use Rattle.std.proofs.lemmas.List.{map-append}
use Rattle.ss_octets.proofs.Members.{Has}

-- ---- options

pub option_map-option_map : {X Y Z : Type 0} (f : Y → Z) (g : X → Y) (o : Option X) → option_map f (option_map g o) ≡ option_map (λ x. f (g x)) o
option_map-option_map f g None = refl
option_map-option_map f g (Some x) = refl

pub map-cons_option : {X Y : Type 0} (f : X → Y) (o : Option X) (xs : List X) → map f (cons_option o xs) ≡ cons_option (option_map f o) (map f xs)
map-cons_option f None xs = refl
map-cons_option f (Some x) xs = refl

-- ---- lists

pub map-map : {X Y Z : Type 0} (f : Y → Z) (g : X → Y) (xs : List X) → map f (map g xs) ≡ map (λ x. f (g x)) xs
map-map f g [] = refl
map-map f g (x ∷ xs) = ap (λ zs. f (g x) ∷ zs) (map-map f g xs)

filter_at : {X Y : Type 0} (g : X → Y) (b : Bool) (x : X) (xs : List X) (ys : List Y) → ys ≡ map g xs → cond b (g x ∷ ys) ys ≡ map g (cond b (x ∷ xs) xs)
filter_at g true x xs ys e = ap (λ zs. g x ∷ zs) e
filter_at g false x xs ys e = e

pub filter-map : {X Y : Type 0} (p : Y → Bool) (g : X → Y) (xs : List X) → filter p (map g xs) ≡ map g (filter (λ x. p (g x)) xs)
filter-map p g [] = refl
filter-map p g (x ∷ xs) = filter_at g (p (g x)) x (filter (λ y. p (g y)) xs) (filter p (map g xs)) (filter-map p g xs)

pub filter_map-map : {X Y Z : Type 0} (f : Y → Option Z) (g : X → Y) (xs : List X) → filter_map f (map g xs) ≡ filter_map (λ x. f (g x)) xs
filter_map-map f g [] = refl
filter_map-map f g (x ∷ xs) = ap (cons_option (f (g x))) (filter_map-map f g xs)

find_at : {X Y : Type 0} (g : X → Y) (b : Bool) (x : X) (o : Option X) (r : Option Y) → r ≡ option_map g o → cond b (Some (g x)) r ≡ option_map g (cond b (Some x) o)
find_at g true x o r e = refl
find_at g false x o r e = e

pub find-map : {X Y : Type 0} (p : Y → Bool) (g : X → Y) (xs : List X) → find p (map g xs) ≡ option_map g (find (λ x. p (g x)) xs)
find-map p g [] = refl
find-map p g (x ∷ xs) = find_at g (p (g x)) x (find (λ y. p (g y)) xs) (find p (map g xs)) (find-map p g xs)

pub map-flat_map : {X Y Z : Type 0} (f : Y → Z) (g : X → List Y) (xs : List X) → map f (flat_map g xs) ≡ flat_map (λ x. map f (g x)) xs
map-flat_map f g [] = refl
map-flat_map f g (x ∷ xs) = map-append f (g x) (flat_map g xs) ∙ ap (λ zs. map f (g x) ++ zs) (map-flat_map f g xs)

-- tests that agree at each member keep the same
pub filter_agree : {X : Type 0} (p q : X → Bool) (xs : List X) → ((x : X) → Has xs x → p x ≡ q x) → filter p xs ≡ filter q xs
filter_agree p q [] e = refl
filter_agree p q (x ∷ xs) e =
    let head : p x ≡ q x = e x (inl refl) in
    let rest : filter p xs ≡ filter q xs = filter_agree p q xs (λ y h. e y (inr h)) in
    λ i. cond (head i) (x ∷ rest i) (rest i)
