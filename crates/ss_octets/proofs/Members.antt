-- Members of lists.
use Rattle.std.proofs.Common.{◌≡◌, ◌⊎◌, inl, inr, ℕ, zero, suc, ◌+◌, ◌<◌, ◌≤◌, Bool, true, false, cond, List, [], ◌∷◌, ◌++◌, length, get_or, map, filter, replicate, refl, sym, ap, ◌∙◌, subst, arith}
use Rattle.std.specs.List.{AllByRecursion, Contains, AllZip, flat_map, filter_map, cons_option, enumerate_from}
use Rattle.std.specs.Prelude.{Option, Some, None}

abbrev pub Has : {X : Type 0} → List X → X → Type 0
Has [] x = ⊥
Has (y ∷ ys) x = (y ≡ x) ⊎ Has ys x

at_index : {X : Type 0} (xs : List X) (x : X) (k : ℕ) → k < length xs → get_or xs k x ≡ x → Has xs x
at_index [] x k below e = absurd (omega arith)
at_index (y ∷ ys) x zero below e = inl e
at_index (y ∷ ys) x (suc k) below e = inr (at_index ys x k (omega arith) e)

pub has_from_contains : {X : Type 0} (xs : List X) (x : X) → Contains xs x → Has xs x
has_from_contains xs x c = at_index xs x c.0 c.1 c.2

pub contains_from_has : {X : Type 0} (xs : List X) (x : X) → Has xs x → Contains xs x
contains_from_has [] x h = absurd h
contains_from_has (y ∷ ys) x (inl e) = (0, omega arith, e)
contains_from_has (y ∷ ys) x (inr h) = let c : Contains ys x = contains_from_has ys x h in (suc c.0, omega arith, c.2)

pub has-append_left : {X : Type 0} (xs ys : List X) (x : X) → Has xs x → Has (xs ++ ys) x
has-append_left [] ys x h = absurd h
has-append_left (z ∷ zs) ys x (inl e) = inl e
has-append_left (z ∷ zs) ys x (inr h) = inr (has-append_left zs ys x h)

pub has-append_right : {X : Type 0} (xs ys : List X) (x : X) → Has ys x → Has (xs ++ ys) x
has-append_right [] ys x h = h
has-append_right (z ∷ zs) ys x h = inr (has-append_right zs ys x h)

pub has-map : {X Y : Type 0} (f : X → Y) (xs : List X) (x : X) → Has xs x → Has (map f xs) (f x)
has-map f [] x h = absurd h
has-map f (y ∷ ys) x (inl e) = inl (ap f e)
has-map f (y ∷ ys) x (inr h) = inr (has-map f ys x h)

pub has-enumerated : {X : Type 0} (n : ℕ) (xs : List X) (x : X) → Has xs x → (k : ℕ) × Has (enumerate_from n xs) (k, x)
has-enumerated n [] x h = absurd h
has-enumerated n (y ∷ ys) x (inl e) = (n, inl (λ i. (n, e i)))
has-enumerated n (y ∷ ys) x (inr h) = let w = has-enumerated (n + 1) ys x h in (w.0, inr w.1)

pub has-zipped : {A B : Type 0} (R : A → B → Type 0) (xs : List A) (ys : List B) (x : A) → AllZip R xs ys → Has xs x → (y : B) × Has ys y × R x y
has-zipped R [] ys x zip h = absurd h
has-zipped R (a ∷ xs) [] x zip h = absurd zip
has-zipped R (a ∷ xs) (b ∷ ys) x zip (inl e) = (b, inl refl, subst (λ c. R c b) e zip.0)
has-zipped R (a ∷ xs) (b ∷ ys) x zip (inr h) = let w = has-zipped R xs ys x zip.1 h in (w.0, inr w.1, w.2)

pub has-replicate : {X : Type 0} (n : ℕ) (x : X) → 1 ≤ n → Has (replicate n x) x
has-replicate zero x some = absurd (omega arith)
has-replicate (suc n) x some = inl refl

pub has-copies : {X : Type 0} (n : ℕ) (xs : List X) (x : X) → 1 ≤ n → Has xs x → Has (flat_map (λ y. replicate n y) xs) x
has-copies n [] x some h = absurd h
has-copies n (y ∷ ys) x some (inl e) = has-append_left (replicate n y) (flat_map (λ z. replicate n z) ys) x (subst (Has (replicate n y)) e (has-replicate n y some))
has-copies n (y ∷ ys) x some (inr h) = has-append_right (replicate n y) (flat_map (λ z. replicate n z) ys) x (has-copies n ys x some h)

-- ---- what has a member

pub has-append_cases : {X : Type 0} (xs ys : List X) (x : X) → Has (xs ++ ys) x → Has xs x ⊎ Has ys x
has-append_cases [] ys x h = inr h
has-append_cases (z ∷ xs) ys x (inl e) = inl (inl e)
has-append_cases (z ∷ xs) ys x (inr h) = elim (has-append_cases xs ys x h) [ inl l ↦ inl (inr l) | inr r ↦ inr r ]

pub from_has-map : {X Y : Type 0} (f : X → Y) (xs : List X) (y : Y) → Has (map f xs) y → (x : X) × Has xs x × (f x ≡ y)
from_has-map f [] y h = absurd h
from_has-map f (z ∷ xs) y (inl e) = (z, inl refl, e)
from_has-map f (z ∷ xs) y (inr h) =
    let r : (x : _) × Has xs x × (f x ≡ y) = from_has-map f xs y h in
    (r.0, inr r.1, r.2)

pub from_has-flat_map : {X Y : Type 0} (f : X → List Y) (xs : List X) (y : Y) → Has (flat_map f xs) y → (x : X) × Has xs x × Has (f x) y
from_has-flat_map f [] y h = absurd h
from_has-flat_map {X} f (z ∷ xs) y h =
    elim (has-append_cases (f z) (flat_map f xs) y h) [
      | inl l ↦ (z, inl refl, l)
      | inr r ↦ (let w : (x : X) × Has xs x × Has (f x) y = from_has-flat_map f xs y r in (w.0, inr w.1, w.2))
    ]

from_has-replicate : {X : Type 0} (n : ℕ) (x y : X) → Has (replicate n x) y → x ≡ y
from_has-replicate zero x y h = absurd h
from_has-replicate (suc n) x y (inl e) = e
from_has-replicate (suc n) x y (inr h) = from_has-replicate n x y h

-- a copy is one of the items
pub from_has-copies : {X : Type 0} (n : ℕ) (xs : List X) (y : X) → Has (flat_map (λ x. replicate n x) xs) y → Has xs y
from_has-copies {X} n xs y h =
    let w = from_has-flat_map (λ (x : X). replicate n x) xs y h in
    subst (Has xs) (from_has-replicate n w.0 y w.2) w.1

-- the item that a member of the second list stands beside
pub from_has-zipped : {A B : Type 0} (R : A → B → Type 0) (xs : List A) (ys : List B) (y : B) → AllZip R xs ys → Has ys y → (x : A) × Has xs x × R x y
from_has-zipped R [] [] y zip h = absurd h
from_has-zipped R [] (b ∷ ys) y zip h = absurd zip
from_has-zipped R (a ∷ xs) [] y zip h = absurd h
from_has-zipped R (a ∷ xs) (b ∷ ys) y zip (inl e) = (a, inl refl, subst (R a) e zip.0)
from_has-zipped R (a ∷ xs) (b ∷ ys) y zip (inr h) = let w = from_has-zipped R xs ys y zip.1 h in (w.0, inr w.1, w.2)

-- a list that has a member, cut there
pub has_split : {X : Type 0} (xs : List X) (x : X) → Has xs x → (front : List X) × (behind : List X) × (xs ≡ front ++ x ∷ behind)
has_split [] x h = absurd h
has_split (y ∷ ys) x (inl e) = ([], ys, ap (λ z. z ∷ ys) e)
has_split (y ∷ ys) x (inr h) = let w = has_split ys x h in (y ∷ w.0, w.1, ap (λ zs. y ∷ zs) w.2)

-- what holds of all holds of a member
pub all-has : {X : Type 0} (P : X → Type 0) (xs : List X) (x : X) → AllByRecursion P xs → Has xs x → P x
all-has P [] x all h = absurd h
all-has P (y ∷ ys) x all (inl e) = subst P e all.0
all-has P (y ∷ ys) x all (inr h) = all-has P ys x all.1 h

-- ---- filters

has-cond : {X : Type 0} (b : Bool) (z : X) (xs : List X) (x : X) → Has xs x → Has (cond b (z ∷ xs) xs) x
has-cond true z xs x h = inr h
has-cond false z xs x h = h

pub has-filter : {X : Type 0} (p : X → Bool) (xs : List X) (x : X) → Has xs x → p x ≡ true → Has (filter p xs) x
has-filter p [] x h t = absurd h
has-filter p (z ∷ xs) x (inl e) t =
    let pass : p z ≡ true = ap p e ∙ t in
    subst (λ b. Has (cond b (z ∷ filter p xs) (filter p xs)) x) (sym pass) (inl e)
has-filter p (z ∷ xs) x (inr h) t = has-cond (p z) z (filter p xs) x (has-filter p xs x h t)

kept : {X : Type 0} (p : X → Bool) (b : Bool) (z : X) (xs ys : List X) (x : X) → p z ≡ b → (Has ys x → Has xs x × (p x ≡ true)) → Has (cond b (z ∷ ys) ys) x → Has (z ∷ xs) x × (p x ≡ true)
kept p true z xs ys x t rest (inl e) = (inl e, ap p (sym e) ∙ t)
kept p true z xs ys x t rest (inr h) = (inr (rest h).0, (rest h).1)
kept p false z xs ys x t rest h = (inr (rest h).0, (rest h).1)

pub from_has-filter : {X : Type 0} (p : X → Bool) (xs : List X) (x : X) → Has (filter p xs) x → Has xs x × (p x ≡ true)
from_has-filter p [] x h = absurd h
from_has-filter p (z ∷ xs) x h = kept p (p z) z xs (filter p xs) x refl (from_has-filter p xs x) h

-- ---- joins of images

pub has-flat_map : {X Y : Type 0} (f : X → List Y) (xs : List X) (x : X) (y : Y) → Has xs x → Has (f x) y → Has (flat_map f xs) y
has-flat_map f [] x y h i = absurd h
has-flat_map f (z ∷ xs) x y (inl e) i = has-append_left (f z) (flat_map f xs) y (subst (λ w. Has (f w) y) (sym e) i)
has-flat_map f (z ∷ xs) x y (inr h) i = has-append_right (f z) (flat_map f xs) y (has-flat_map f xs x y h i)

-- ---- options

has-cons_option : {Y : Type 0} (o : Option Y) (ys : List Y) (y : Y) → Has ys y → Has (cons_option o ys) y
has-cons_option None ys y h = h
has-cons_option (Some w) ys y h = inr h

some_here : {Y : Type 0} (o : Option Y) (ys : List Y) (y : Y) → o ≡ Some y → Has (cons_option o ys) y
some_here {Y} o ys y e = subst (λ (p : Option Y). Has (cons_option p ys) y) (sym e) (inl refl)

pub has-filter_map : {X Y : Type 0} (f : X → Option Y) (xs : List X) (x : X) (y : Y) → Has xs x → f x ≡ Some y → Has (filter_map f xs) y
has-filter_map f [] x y h e = absurd h
has-filter_map f (z ∷ xs) x y (inl i) e = some_here (f z) (filter_map f xs) y (ap f i ∙ e)
has-filter_map f (z ∷ xs) x y (inr h) e = has-cons_option (f z) (filter_map f xs) y (has-filter_map f xs x y h e)

told : {X Y : Type 0} (f : X → Option Y) (o : Option Y) (z : X) (xs : List X) (ys : List Y) (y : Y) → f z ≡ o → (Has ys y → (x : X) × Has xs x × (f x ≡ Some y)) → Has (cons_option o ys) y → (x : X) × Has (z ∷ xs) x × (f x ≡ Some y)
told f None z xs ys y t rest h = ((rest h).0, inr (rest h).1, (rest h).2)
told f (Some w) z xs ys y t rest (inl e) = (z, inl refl, t ∙ ap Some e)
told f (Some w) z xs ys y t rest (inr h) = ((rest h).0, inr (rest h).1, (rest h).2)

pub from_has-filter_map : {X Y : Type 0} (f : X → Option Y) (xs : List X) (y : Y) → Has (filter_map f xs) y → (x : X) × Has xs x × (f x ≡ Some y)
from_has-filter_map f [] y h = absurd h
from_has-filter_map f (z ∷ xs) y h = told f (f z) z xs (filter_map f xs) y refl (from_has-filter_map f xs y) h
