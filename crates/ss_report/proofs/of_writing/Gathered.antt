-- A list that is put together item by item.
use Rattle.std.proofs.Common.{◌≡◌, ℕ, ◌+◌, ◌<◌, List, [], ◌∷◌, ◌++◌, length, get_or, take, sym, ap, ◌∙◌, append_assoc}
use Rattle.std.proofs.lemmas.List.{take_more}

-- where two lists are gathered one after the other, what the items so far give goes on with what the next one gives
pub gathers_next : {X Y : Type 0} (f : List X → List Y) → ((xs ys : List X) → f (xs ++ ys) ≡ f xs ++ f ys) → (xs : List X) (i : ℕ) (d : X) (start before given : List Y)
    → i < length xs → before ≡ start ++ f (take i xs) → given ≡ f (get_or xs i d ∷ []) → before ++ given ≡ start ++ f (take (i + 1) xs)
gathers_next f splits xs i d start before given within so_far next =
    let more : f (take i xs) ++ given ≡ f (take (i + 1) xs) =
    ap (λ t. f (take i xs) ++ t) next ∙ sym (ap f (take_more xs i d within) ∙ splits (take i xs) (get_or xs i d ∷ [])) in
    ap (λ t. t ++ given) so_far ∙ (append_assoc start (f (take i xs)) given ∙ ap (λ t. start ++ t) more)
