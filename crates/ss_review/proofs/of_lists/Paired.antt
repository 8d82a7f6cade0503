-- Lists whose elements stand in pairs, and where an element stands in a list.
use Rattle.std.proofs.Common.{◌≡◌, ◌⊎◌, inl, inr, List, [], ◌∷◌, ◌++◌, map, refl, sym, ap, ◌∙◌, subst}
use Rattle.std.specs.Prelude.{Option, Some, None}
use Rattle.std.specs.List.{AllZip, last_or}
use Rattle.std.proofs.lemmas.Option.{same_Some}
use Rattle.ss_octets.proofs.Members.{Has}

-- ---- members

-- what stands before a member of a list, and behind it
pub record StandsIn {X : Type 0} (xs : List X) (x : X) : Type 0 where
  pub front : List X
  pub behind : List X
  pub parts : xs ≡ front ++ x ∷ behind

pub parted : {X : Type 0} (xs : List X) (x : X) → Has xs x → StandsIn xs x
parted [] x h = absurd h
parted (y ∷ ys) x (inl e) = record { front = []; behind = ys; parts = ap (λ z. z ∷ ys) e }
parted (y ∷ ys) x (inr h) = let w = parted ys x h in record { front = y ∷ w.front; behind = w.behind; parts = ap (λ zs. y ∷ zs) w.parts }

last_at : {X : Type 0} (o : Option X) (front : List X) (x : X) → last_or o (front ++ x ∷ []) ≡ Some x
last_at o [] x = refl
last_at o (y ∷ front) x = last_at (Some y) front x

-- a list ends with one element
pub one_last : {X : Type 0} (xs front other : List X) (x y : X) → xs ≡ front ++ x ∷ [] → xs ≡ other ++ y ∷ [] → x ≡ y
one_last xs front other x y e d =
    same_Some x y (sym (last_at None front x) ∙ ap (last_or None) (sym e ∙ d) ∙ last_at None other y)

-- ---- pairs

-- the two stand at one place of two lists
abbrev pub ArePaired : {A B : Type 0} → List A → List B → A → B → Type 0
ArePaired [] ys a b = ⊥
ArePaired (x ∷ xs) [] a b = ⊥
ArePaired (x ∷ xs) (y ∷ ys) a b = ((x ≡ a) × (y ≡ b)) ⊎ ArePaired xs ys a b

pub paired_left : {A B : Type 0} (xs : List A) (ys : List B) (a : A) (b : B) → ArePaired xs ys a b → Has xs a
paired_left [] ys a b p = absurd p
paired_left (x ∷ xs) [] a b p = absurd p
paired_left (x ∷ xs) (y ∷ ys) a b (inl e) = inl e.0
paired_left (x ∷ xs) (y ∷ ys) a b (inr p) = inr (paired_left xs ys a b p)

pub paired_right : {A B : Type 0} (xs : List A) (ys : List B) (a : A) (b : B) → ArePaired xs ys a b → Has ys b
paired_right [] ys a b p = absurd p
paired_right (x ∷ xs) [] a b p = absurd p
paired_right (x ∷ xs) (y ∷ ys) a b (inl e) = inl e.1
paired_right (x ∷ xs) (y ∷ ys) a b (inr p) = inr (paired_right xs ys a b p)

pub paired_holds : {A B : Type 0} (R : A → B → Type 0) (xs : List A) (ys : List B) (a : A) (b : B) → AllZip R xs ys → ArePaired xs ys a b → R a b
paired_holds R [] ys a b zip p = absurd p
paired_holds R (x ∷ xs) [] a b zip p = absurd p
paired_holds R (x ∷ xs) (y ∷ ys) a b zip (inl e) = subst (λ c. R c b) e.0 (subst (λ d. R x d) e.1 zip.0)
paired_holds R (x ∷ xs) (y ∷ ys) a b zip (inr p) = paired_holds R xs ys a b zip.1 p

pub pair_of_left : {A B : Type 0} (R : A → B → Type 0) (xs : List A) (ys : List B) (a : A) → AllZip R xs ys → Has xs a → (b : B) × ArePaired xs ys a b
pair_of_left R [] ys a zip h = absurd h
pair_of_left R (x ∷ xs) [] a zip h = absurd zip
pair_of_left R (x ∷ xs) (y ∷ ys) a zip (inl e) = (y, inl (e, refl))
pair_of_left R (x ∷ xs) (y ∷ ys) a zip (inr h) = let w = pair_of_left R xs ys a zip.1 h in (w.0, inr w.1)

pub pair_of_right : {A B : Type 0} (R : A → B → Type 0) (xs : List A) (ys : List B) (b : B) → AllZip R xs ys → Has ys b → (a : A) × ArePaired xs ys a b
pair_of_right R [] [] b zip h = absurd h
pair_of_right R [] (y ∷ ys) b zip h = absurd zip
pair_of_right R (x ∷ xs) [] b zip h = absurd h
pair_of_right R (x ∷ xs) (y ∷ ys) b zip (inl e) = (x, inl (refl, e))
pair_of_right R (x ∷ xs) (y ∷ ys) b zip (inr h) = let w = pair_of_right R xs ys b zip.1 h in (w.0, inr w.1)

pub zip_of_map : {A B C : Type 0} (R : B → C → Type 0) (f : A → B) (xs : List A) (ys : List C) → AllZip R (map f xs) ys → AllZip (λ x y. R (f x) y) xs ys
zip_of_map R f [] [] zip = tt
zip_of_map R f [] (y ∷ ys) zip = absurd zip
zip_of_map R f (x ∷ xs) [] zip = absurd zip
zip_of_map R f (x ∷ xs) (y ∷ ys) zip = (zip.0, zip_of_map R f xs ys zip.1)
