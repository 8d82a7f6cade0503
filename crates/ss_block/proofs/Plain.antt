-- A value without a `\` stands for itself.
use Rattle.std.proofs.Common.{◌≡◌, ℕ, false, eqb, List, [], ◌∷◌, refl, ap}
use Rattle.std.specs.List.{list_any}
use Rattle.std.proofs.lemmas.Bool.{or_parts}
use Rattle.ss_message.specs.Raw.{meant}

pub meant-plain : (raw : List ℕ) → list_any (λ b. eqb b 92) raw ≡ false → meant raw ≡ raw
meant-plain [] h = refl
meant-plain (b ∷ raw) h =
    let t = or_parts (eqb b 92) (list_any (λ o. eqb o 92) raw) h in
    rw (t.0) (ap (λ (rest : List ℕ). b ∷ rest) (meant-plain raw t.1))
