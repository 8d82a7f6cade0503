-- The element of a list at a place, and that of a map over it.
use Rattle.std.proofs.Common.{◌≡◌, inl, inr, ℕ, zero, suc, ◌<◌, List, [], ◌∷◌, length, get_or, map, refl, arith}
use Rattle.ss_octets.proofs.Members.{Has}

pub has_at : {X : Type 0} (xs : List X) (i : ℕ) (d : X) → i < length xs → Has xs (get_or xs i d)
has_at [] i d below = absurd (omega arith)
has_at (x ∷ xs) zero d below = inl refl
has_at (x ∷ xs) (suc i) d below = inr (has_at xs i d (omega arith))

pub map_at : {K X : Type 0} (f : K → X) (ws : List K) (i : ℕ) (d : X) (e : K) → i < length ws → get_or (map f ws) i d ≡ f (get_or ws i e)
map_at f [] i d e below = absurd (omega arith)
map_at f (w ∷ ws) zero d e below = refl
map_at f (w ∷ ws) (suc i) d e below = map_at f ws i d e (omega arith)
