-- Readings of texts, from the values that they spell.
use Rattle.std.proofs.Common.{◌≡◌, ℕ, List, Option, Some, None, Result, Ok, Err, refl, sym, ap, ◌∙◌}
use Rattle.ss_message.specs.declared.fault.Part.{Part}
use Rattle.ss_message.specs.declared.fault.BadPart.{BadPart}
use Rattle.ss_message.specs.Message.{ElementValue, MessageValue, IsMessage, text}
use Rattle.ss_message.specs.Layout.{Layout, value_at}
use Rattle.ss_message.specs.Reading.{bad, layout_at}
use Rattle.ss_message.specs.Faults.{FailsAt}
use Rattle.ss_message.specs.Laws.{OneText, FaultsAreOfNoMessage, FaultsAreRows}
use Rattle.ss_block.specs.declared.spoil.Spoil.{Spoil}
use Rattle.ss_block.specs.declared.reading.Reading.{Reading}
use Rattle.ss_block.specs.declared.reading.Reading.TheVariants.{Unparsed, Signature, Certificate}
use Rattle.ss_block.specs.Reading.{has_parameters, first_cause, signature_names, signature_texts, signature_causes, signature_block, signature_reading, certificate_names, certificate_texts, certificate_causes, certificate_block, certificate_reading, unless_spoilt, ssign, ssign_cert, reading_with, value_reading, reading_from, reading}

pub reading_is : (t : List ℕ) (r : Result Layout BadPart) → layout_at t ≡ r → reading t ≡ reading_from t r
unfolding reading
reading_is t r e = ap (reading_from t) e

-- ---- a message is never read as none

spoilt_parsed : (cause : Option Spoil) (r : Reading) (part : Part) (pos : ℕ) → (r ≡ Unparsed part pos → ⊥) → unless_spoilt cause r ≡ Unparsed part pos → ⊥
spoilt_parsed None r part pos parsed e = parsed e
spoilt_parsed (Some cause) r part pos parsed e = absurd cc

signature_parsed : (v : ElementValue) (part : Part) (pos : ℕ) → signature_reading v ≡ Unparsed part pos → ⊥
unfolding signature_reading
signature_parsed v part pos e =
    spoilt_parsed (first_cause (signature_causes (has_parameters signature_names v) (signature_texts v))) (Signature (signature_block (signature_texts v))) part pos (λ h. absurd cc) e

certificate_parsed : (v : ElementValue) (part : Part) (pos : ℕ) → certificate_reading v ≡ Unparsed part pos → ⊥
unfolding certificate_reading
certificate_parsed v part pos e =
    spoilt_parsed (first_cause (certificate_causes (has_parameters certificate_names v) (certificate_texts v))) (Certificate (certificate_block (certificate_texts v))) part pos (λ h. absurd cc) e

element_parsed : (s c : Option ElementValue) (part : Part) (pos : ℕ) → reading_with s c ≡ Unparsed part pos → ⊥
element_parsed None None part pos e = absurd cc
element_parsed (Some v) None part pos e = signature_parsed v part pos e
element_parsed None (Some v) part pos e = certificate_parsed v part pos e
element_parsed (Some v) (Some w) part pos e = absurd cc

-- ---- the law

pub of_value : OneText → FaultsAreOfNoMessage → (t : List ℕ) (v : MessageValue) → IsMessage v → t ≡ text v → reading t ≡ value_reading v
of_value one faults t v valid spelled = by_layout one faults t v valid spelled (layout_at t) refl
  where
    by_layout : OneText → FaultsAreOfNoMessage → (t : List ℕ) (v : MessageValue) → IsMessage v → t ≡ text v → (r : Result Layout BadPart) → layout_at t ≡ r → reading t ≡ value_reading v
    by_layout one faults t v valid spelled (Ok l) e =
        let there = faults.0 t l e in
        reading_is t (Ok l) e ∙ ap value_reading (one (value_at t l) v there.0 valid (sym there.1 ∙ spelled))
    by_layout one faults t v valid spelled (Err f) e = absurd (faults.1 t f e v valid spelled)

pub of_none : FaultsAreOfNoMessage → (t : List ℕ) (part : Part) (pos : ℕ) → reading t ≡ Unparsed part pos → (v : MessageValue) → IsMessage v → t ≡ text v → ⊥
of_none faults t part pos told v valid spelled = by_layout faults t part pos told v valid spelled (layout_at t) refl
  where
    by_layout : FaultsAreOfNoMessage → (t : List ℕ) (part : Part) (pos : ℕ) → reading t ≡ Unparsed part pos → (v : MessageValue) → IsMessage v → t ≡ text v → (r : Result Layout BadPart) → layout_at t ≡ r → ⊥
    by_layout faults t part pos told v valid spelled (Ok l) e = element_parsed (ssign (value_at t l).elements) (ssign_cert (value_at t l).elements) part pos (sym (reading_is t (Ok l) e) ∙ told)
    by_layout faults t part pos told v valid spelled (Err f) e = faults.1 t f e v valid spelled

pub of_fault : FaultsAreRows → (t : List ℕ) (part : Part) (pos : ℕ) → reading t ≡ Unparsed part pos → FailsAt part t pos
of_fault rows t part pos told = by_layout rows t part pos told (layout_at t) refl
  where
    by_layout : FaultsAreRows → (t : List ℕ) (part : Part) (pos : ℕ) → reading t ≡ Unparsed part pos → (r : Result Layout BadPart) → layout_at t ≡ r → FailsAt part t pos
    by_layout rows t part pos told (Ok l) e = absurd (element_parsed (ssign (value_at t l).elements) (ssign_cert (value_at t l).elements) part pos (sym (reading_is t (Ok l) e) ∙ told))
    by_layout rows t part pos told (Err f) e =
        let same : Unparsed f.part f.pos ≡ Unparsed part pos = sym (reading_is t (Err f) e) ∙ told in
        let part_is : f.part ≡ part = cc in
        let pos_is : f.pos ≡ pos = cc in
        rows.0 t part pos (e ∙ ap (λ (p : Part). Err (bad p f.pos)) part_is ∙ ap (λ (k : ℕ). Err (bad part k)) pos_is)

pub of_row : FaultsAreRows → (t : List ℕ) (part : Part) (pos : ℕ) → FailsAt part t pos → reading t ≡ Unparsed part pos
of_row rows t part pos fails = reading_is t (Err (bad part pos)) (rows.1 t part pos fails)
