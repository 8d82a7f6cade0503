-- The front of what was read.
use Rattle.std.proofs.Common.{◌≡◌, ◌↔◌, ℕ, true, false, ◌+◌, ◌-◌, ◌≤◌, min, List, ◌++◌, length, take, Result, Ok, Err, IsOk, OnOk, ap, sym, ◌∙◌, arith, length-take}
use Rattle.std.proofs.Math.Seq.{take-append-add}
use Rattle.std.proofs.lemmas.List.{take_min}

-- as many octets as there is room for, after those that are kept, are the first six of all
front : (kept octets : List ℕ) → length kept ≤ 6 → kept ++ take (min (6 - length kept) (length octets)) octets ≡ take 6 (kept ++ octets)
front kept octets fits =
    let room : length kept + (6 - length kept) ≡ 6 = omega arith in
    ap (λ (part : List ℕ). kept ++ part) (take_min (6 - length kept) octets)
    ∙ sym (take-append-add kept octets (6 - length kept)) ∙ ap (λ (count : ℕ). take count (kept ++ octets)) room

-- there is room for them
pub kept_front : {X E : Type 0} (r : Result X E) (kept new octets : List ℕ) (count : ℕ) → length kept ≤ 6
    → count ≡ min (6 - length kept) (length octets) → (IsOk r ↔ (length kept + length (take count octets) ≤ 6))
    → OnOk r (new ≡ kept ++ take count octets) → new ≡ take 6 (kept ++ octets)
kept_front (Ok x) kept new octets count fits is variant ok =
    ok ∙ ap (λ (part : ℕ). kept ++ take part octets) is ∙ front kept octets fits
kept_front (Err e) kept new octets count fits is variant ok =
    let bad : false ≡ true = variant.1 (omega (arith, length-take count octets)) in
    cc
