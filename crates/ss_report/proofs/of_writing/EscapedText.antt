-- Texts in which nothing has to be escaped.
use Rattle.std.proofs.Common.{◌≡◌, ℕ, Bool, true, false, List, [], ◌∷◌, ◌++◌, flat_map, refl, ap}
use Rattle.std.specs.Prelude.{◌||◌, if◌then◌else◌}
use Rattle.std.specs.List.{list_any}
use Rattle.ss_report.specs.records.Json.{is_escaped, escaped}

one_more : (x : ℕ) (rest told : List ℕ) (this more : Bool) → (this || more) ≡ false → (more ≡ false → told ≡ rest)
    → (if this then 92 ∷ x ∷ [] else x ∷ []) ++ told ≡ x ∷ rest
one_more x rest told false more none others = ap (λ t. x ∷ t) (others none)
one_more x rest told true more none others =
    let no : ⊥ = cc in
    absurd no

pub nothing_escaped : (xs : List ℕ) → list_any is_escaped xs ≡ false → flat_map escaped xs ≡ xs
nothing_escaped [] none = refl
nothing_escaped (x ∷ xs) none = one_more x xs (flat_map escaped xs) (is_escaped x) (list_any is_escaped xs) none (nothing_escaped xs)
