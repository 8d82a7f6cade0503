-- Where the `]` of an element stands.
use Rattle.std.proofs.Common.{◌≡◌, ℕ, suc, ◌+◌, ◌-◌, List, [], ◌∷◌, length, Some, None, refl, sym, ap, ◌∙◌, arith}
use Rattle.std.specs.List.{slice_get}
use Rattle.ss_message.specs.declared.message.Parameter.{Parameter}
use Rattle.ss_message.specs.Places.{ParametersLie}
use Rattle.ss_signed.specs.Places.{end_from}

pub end_last : (pos : ℕ) (ps : List Parameter) (p : Parameter) → slice_get ps (length ps - 1) ≡ Some p → end_from pos ps ≡ p.value.end + 1
end_last pos [] p h = absurd cc
end_last pos (x ∷ []) p h = let same : x ≡ p = cc in ap (λ (q : Parameter). q.value.end + 1) same
end_last pos (x ∷ y ∷ ps) p h =
    let k : length (x ∷ y ∷ ps) - 1 ≡ suc (length (y ∷ ps) - 1) = omega arith in
    let behind : slice_get (y ∷ ps) (length (y ∷ ps) - 1) ≡ Some p = ap (slice_get (x ∷ y ∷ ps)) (sym k) ∙ h in
    end_last (x.value.end + 1) (y ∷ ps) p behind

pub end_none : (pos : ℕ) (ps : List Parameter) → slice_get ps (length ps - 1) ≡ None → end_from pos ps ≡ pos
end_none pos [] h = refl
end_none pos (x ∷ []) h = absurd cc
end_none pos (x ∷ y ∷ ps) h =
    let k : length (x ∷ y ∷ ps) - 1 ≡ suc (length (y ∷ ps) - 1) = omega arith in
    let behind : slice_get (y ∷ ps) (length (y ∷ ps) - 1) ≡ None = ap (slice_get (x ∷ y ∷ ps)) (sym k) ∙ h in
    absurd (never y ps behind)
  where
    never : (y : Parameter) (ps : List Parameter) → slice_get (y ∷ ps) (length (y ∷ ps) - 1) ≡ None → ⊥
    never y [] h = absurd cc
    never y (z ∷ ps) h =
        let k : length (y ∷ z ∷ ps) - 1 ≡ suc (length (z ∷ ps) - 1) = omega arith in
        let behind : slice_get (z ∷ ps) (length (z ∷ ps) - 1) ≡ None = ap (slice_get (y ∷ z ∷ ps)) (sym k) ∙ h in
        never z ps behind

pub end_close : (t : List ℕ) (pos : ℕ) (ps : List Parameter) (close : ℕ) → ParametersLie t pos ps close → end_from pos ps ≡ close
end_close t pos [] close lie = lie
end_close t pos (p ∷ ps) close lie = end_close t (p.value.end + 1) ps close lie.1
