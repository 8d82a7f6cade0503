-- Texts that are added one after the other.
use Rattle.std.proofs.Common.{◌≡◌, ℕ, ◌+◌, ◌<◌, List, [], ◌∷◌, ◌++◌, length, get_or, take, flat_map, sym, ap, ◌∙◌, append-nil, append_assoc}
use Rattle.std.proofs.lemmas.Grind.{flat_map-append}
use Rattle.std.proofs.lemmas.List.{take_more}

-- a text, and then another one
pub added_then : {A : Type 0} (before x y now next : List A) → now ≡ before ++ x → next ≡ now ++ y → next ≡ before ++ (x ++ y)
added_then before x y now next first second = second ∙ ap (λ t. t ++ y) first ∙ append_assoc before x y

-- the texts of the items so far, and then that of the next one
pub added_more : {X A : Type 0} (f : X → List A) (xs : List X) (i : ℕ) (d : X) (before now next added : List A) → i < length xs
    → now ≡ before ++ flat_map f (take i xs) → next ≡ now ++ added → added ≡ f (get_or xs i d)
    → next ≡ before ++ flat_map f (take (i + 1) xs)
added_more f xs i d before now next added within so_far adds is =
    let x = get_or xs i d in
    let more : flat_map f (take (i + 1) xs) ≡ flat_map f (take i xs) ++ added =
    ap (flat_map f) (take_more xs i d within) ∙ flat_map-append f (take i xs) (x ∷ [])
    ∙ ap (λ t. flat_map f (take i xs) ++ t) (append-nil (f x) ∙ sym is) in
    added_then before (flat_map f (take i xs)) added now next so_far adds ∙ ap (λ t. before ++ t) (sym more)
