-- The first cause of an element `ssign` that is no block, from the causes before it.
use Rattle.std.proofs.Common.{◌≡◌, ◌+◌, Bool, true, false, [], ◌∷◌, length, Some, None, refl, sym, ◌∙◌}
use Rattle.std.specs.Prelude.{not, nat_lt, ◌==◌, is_some}
use Rattle.std.specs.List.{list_all}
use Rattle.ss_message.specs.Message.{ElementValue}
use Rattle.ss_block.specs.declared.spoil.Spoil.{Spoil}
use Rattle.ss_block.specs.declared.spoil.Spoil.TheVariants as spoils
use Rattle.ss_block.specs.declared.reading.Reading.{Reading}
use Rattle.ss_block.specs.declared.reading.Reading.TheVariants.{Signature, Spoilt}
use Rattle.ss_block.specs.Block as block
use Rattle.ss_octets.specs.StrictBase64.{octets_in}
use Rattle.ss_octets.specs.Number.{number}
use Rattle.ss_block.specs.Reading.{has_parameters, first_cause, hash_in, pieces, signature_names, SignatureTexts, signature_texts, signature_numbers, signature_block, unless_spoilt, signature_reading}
use Rattle.ss_block.specs.Causes.{hash_causes}
use Rattle.ss_block.specs.Versions.{is_version, alg_of}

abbrev pub counted : SignatureTexts → Bool
counted t = length (pieces t.hb) == number t.cnt

abbrev pub hashed : SignatureTexts → Bool
hashed t = list_all (λ piece. is_some (hash_in (alg_of t.ver) piece)) (pieces t.hb)

abbrev late : SignatureTexts → Bool
late t = nat_lt 10000000000 (number t.fmn + number t.cnt)

abbrev told : Bool → Bool → Bool → Bool → Bool → Bool → Bool → Reading → Reading
told n v u c h s l x = unless_spoilt (first_cause ((not n, spoils.Names) ∷ (not v, spoils.Version) ∷ (not u, spoils.Number) ∷ (not c, spoils.HashCount) ∷ (not h, spoils.Hash) ∷ (not s, spoils.Sign) ∷ (l, spoils.LastNumber) ∷ [])) x

abbrev whole : ElementValue → Reading
whole e =
    let t = signature_texts e in
    told (has_parameters signature_names e) (is_version t.ver) (signature_numbers t) (counted t) (hashed t) (is_some (octets_in t.sign)) (late t) (Signature (signature_block t))

reading_is : (e : ElementValue) → signature_reading e ≡ whole e
unfolding signature_reading
reading_is e = refl

at_names : (n v u c h s l : Bool) (x : Reading) → n ≡ false → told n v u c h s l x ≡ Spoilt spoils.Names
at_names n v u c h s l x e = rw e refl

at_version : (n v u c h s l : Bool) (x : Reading) → n ≡ true → v ≡ false → told n v u c h s l x ≡ Spoilt spoils.Version
at_version n v u c h s l x e f = rw (e, f) refl

at_numbers : (n v u c h s l : Bool) (x : Reading) → n ≡ true → v ≡ true → u ≡ false → told n v u c h s l x ≡ Spoilt spoils.Number
at_numbers n v u c h s l x e f g = rw (e, f, g) refl

at_hashes : (n v u c h s l : Bool) (x : Reading) (cause : Spoil) → n ≡ true → v ≡ true → u ≡ true → first_cause ((not c, spoils.HashCount) ∷ (not h, spoils.Hash) ∷ []) ≡ Some cause → told n v u c h s l x ≡ Spoilt cause
at_hashes n v u false h s l x cause e f g k = let same : spoils.HashCount ≡ cause = cc in rw (e, f, g) (rw same refl)
at_hashes n v u true false s l x cause e f g k = let same : spoils.Hash ≡ cause = cc in rw (e, f, g) (rw same refl)
at_hashes n v u true true s l x cause e f g k = absurd cc

pub both : (c h : Bool) → first_cause ((not c, spoils.HashCount) ∷ (not h, spoils.Hash) ∷ []) ≡ None → (c ≡ true) × (h ≡ true)
both true true k = (refl, refl)
both true false k = absurd cc
both false h k = absurd cc

pub neither : (c h : Bool) → c ≡ true → h ≡ true → first_cause ((not c, spoils.HashCount) ∷ (not h, spoils.Hash) ∷ []) ≡ None
neither c h e f = rw (e, f) refl

at_sign : (n v u c h s l : Bool) (x : Reading) → n ≡ true → v ≡ true → u ≡ true → (c ≡ true) × (h ≡ true) → s ≡ false → told n v u c h s l x ≡ Spoilt spoils.Sign
at_sign n v u c h s l x e f g k i = rw (e, f, g, k.0, k.1, i) refl

at_last : (n v u c h s l : Bool) (x : Reading) → n ≡ true → v ≡ true → u ≡ true → (c ≡ true) × (h ≡ true) → s ≡ true → l ≡ true → told n v u c h s l x ≡ Spoilt spoils.LastNumber
at_last n v u c h s l x e f g k i j = rw (e, f, g, k.0, k.1, i, j) refl

at_none : (n v u c h s l : Bool) (x : Reading) → n ≡ true → v ≡ true → u ≡ true → (c ≡ true) × (h ≡ true) → s ≡ true → l ≡ false → told n v u c h s l x ≡ x
at_none n v u c h s l x e f g k i j = rw (e, f, g, k.0, k.1, i, j) refl

-- ---- of an element

pub spoilt_names : (e : ElementValue) → has_parameters signature_names e ≡ false → signature_reading e ≡ Spoilt spoils.Names
spoilt_names e n =
    let t = signature_texts e in
    reading_is e ∙ at_names (has_parameters signature_names e) (is_version t.ver) (signature_numbers t) (counted t) (hashed t) (is_some (octets_in t.sign)) (late t) (Signature (signature_block t)) n

pub spoilt_version : (e : ElementValue) → has_parameters signature_names e ≡ true → is_version (signature_texts e).ver ≡ false → signature_reading e ≡ Spoilt spoils.Version
spoilt_version e n v =
    let t = signature_texts e in
    reading_is e ∙ at_version (has_parameters signature_names e) (is_version t.ver) (signature_numbers t) (counted t) (hashed t) (is_some (octets_in t.sign)) (late t) (Signature (signature_block t)) n v

pub spoilt_number : (e : ElementValue) → has_parameters signature_names e ≡ true → is_version (signature_texts e).ver ≡ true → signature_numbers (signature_texts e) ≡ false → signature_reading e ≡ Spoilt spoils.Number
spoilt_number e n v u =
    let t = signature_texts e in
    reading_is e ∙ at_numbers (has_parameters signature_names e) (is_version t.ver) (signature_numbers t) (counted t) (hashed t) (is_some (octets_in t.sign)) (late t) (Signature (signature_block t)) n v u

pub spoilt_hashes : (e : ElementValue) (cause : Spoil) → has_parameters signature_names e ≡ true → is_version (signature_texts e).ver ≡ true → signature_numbers (signature_texts e) ≡ true
    → first_cause (hash_causes (signature_texts e)) ≡ Some cause → signature_reading e ≡ Spoilt cause
spoilt_hashes e cause n v u h =
    let t = signature_texts e in
    reading_is e ∙ at_hashes (has_parameters signature_names e) (is_version t.ver) (signature_numbers t) (counted t) (hashed t) (is_some (octets_in t.sign)) (late t) (Signature (signature_block t)) cause n v u h

pub spoilt_sign : (e : ElementValue) → has_parameters signature_names e ≡ true → is_version (signature_texts e).ver ≡ true → signature_numbers (signature_texts e) ≡ true
    → first_cause (hash_causes (signature_texts e)) ≡ None → is_some (octets_in (signature_texts e).sign) ≡ false → signature_reading e ≡ Spoilt spoils.Sign
spoilt_sign e n v u h s =
    let t = signature_texts e in
    reading_is e ∙ at_sign (has_parameters signature_names e) (is_version t.ver) (signature_numbers t) (counted t) (hashed t) (is_some (octets_in t.sign)) (late t) (Signature (signature_block t)) n v u (both (counted t) (hashed t) h) s

pub spoilt_last : (e : ElementValue) → has_parameters signature_names e ≡ true → is_version (signature_texts e).ver ≡ true → signature_numbers (signature_texts e) ≡ true
    → first_cause (hash_causes (signature_texts e)) ≡ None → is_some (octets_in (signature_texts e).sign) ≡ true
    → nat_lt 10000000000 (number (signature_texts e).fmn + number (signature_texts e).cnt) ≡ true → signature_reading e ≡ Spoilt spoils.LastNumber
spoilt_last e n v u h s l =
    let t = signature_texts e in
    reading_is e ∙ at_last (has_parameters signature_names e) (is_version t.ver) (signature_numbers t) (counted t) (hashed t) (is_some (octets_in t.sign)) (late t) (Signature (signature_block t)) n v u (both (counted t) (hashed t) h) s l

pub is_block : (e : ElementValue) → has_parameters signature_names e ≡ true → is_version (signature_texts e).ver ≡ true → signature_numbers (signature_texts e) ≡ true
    → first_cause (hash_causes (signature_texts e)) ≡ None → is_some (octets_in (signature_texts e).sign) ≡ true
    → nat_lt 10000000000 (number (signature_texts e).fmn + number (signature_texts e).cnt) ≡ false → signature_reading e ≡ Signature (signature_block (signature_texts e))
is_block e n v u h s l =
    let t = signature_texts e in
    reading_is e ∙ at_none (has_parameters signature_names e) (is_version t.ver) (signature_numbers t) (counted t) (hashed t) (is_some (octets_in t.sign)) (late t) (Signature (signature_block t)) n v u (both (counted t) (hashed t) h) s l

-- ---- of a block

apart : (n v u c h s l : Bool) (x b : block.Signature) → told n v u c h s l (Signature x) ≡ Signature b
    → (n ≡ true) × (v ≡ true) × (u ≡ true) × (first_cause ((not c, spoils.HashCount) ∷ (not h, spoils.Hash) ∷ []) ≡ None) × (s ≡ true) × (l ≡ false) × (x ≡ b)
apart true true true true true true false x b e = (refl, refl, refl, refl, refl, refl, cc)
apart true true true true true true true x b e = absurd cc
apart true true true true true false l x b e = absurd cc
apart true true true true false s l x b e = absurd cc
apart true true true false h s l x b e = absurd cc
apart true true false c h s l x b e = absurd cc
apart true false u c h s l x b e = absurd cc
apart false v u c h s l x b e = absurd cc

-- no cause applies to what is read as a block
pub of_block : (e : ElementValue) (b : block.Signature) → signature_reading e ≡ Signature b
    → (has_parameters signature_names e ≡ true) × (is_version (signature_texts e).ver ≡ true) × (signature_numbers (signature_texts e) ≡ true)
    × (first_cause (hash_causes (signature_texts e)) ≡ None) × (is_some (octets_in (signature_texts e).sign) ≡ true)
    × (nat_lt 10000000000 (number (signature_texts e).fmn + number (signature_texts e).cnt) ≡ false) × (signature_block (signature_texts e) ≡ b)
of_block e b h =
    let t = signature_texts e in
    apart (has_parameters signature_names e) (is_version t.ver) (signature_numbers t) (counted t) (hashed t) (is_some (octets_in t.sign)) (late t) (signature_block t) b (sym (reading_is e) ∙ h)
