-- The first cause of an element `ssign-cert` that is no block, from the causes before it.
use Rattle.std.proofs.Common.{◌≡◌, Bool, true, false, [], ◌∷◌, refl, sym, ◌∙◌}
use Rattle.std.specs.Prelude.{not, is_some}
use Rattle.ss_message.specs.Message.{ElementValue}
use Rattle.ss_block.specs.declared.spoil.Spoil.TheVariants as spoils
use Rattle.ss_block.specs.declared.reading.Reading.{Reading}
use Rattle.ss_block.specs.declared.reading.Reading.TheVariants.{Certificate, Spoilt}
use Rattle.ss_block.specs.Block as block
use Rattle.ss_octets.specs.StrictBase64.{octets_in}
use Rattle.ss_block.specs.Reading.{has_parameters, first_cause, certificate_names, certificate_texts, certificate_numbers, certificate_block, unless_spoilt, certificate_reading}
use Rattle.ss_block.specs.Causes.{misfits}
use Rattle.ss_block.specs.Versions.{is_version}

abbrev told : Bool → Bool → Bool → Bool → Bool → Reading → Reading
told n v u s f x = unless_spoilt (first_cause ((not n, spoils.Names) ∷ (not v, spoils.Version) ∷ (not u, spoils.Number) ∷ (not s, spoils.Sign) ∷ (f, spoils.Fragment) ∷ [])) x

abbrev whole : ElementValue → Reading
whole e =
    let t = certificate_texts e in
    told (has_parameters certificate_names e) (is_version t.ver) (certificate_numbers t) (is_some (octets_in t.sign)) (misfits t) (Certificate (certificate_block t))

reading_is : (e : ElementValue) → certificate_reading e ≡ whole e
unfolding certificate_reading
reading_is e = refl

at_names : (n v u s f : Bool) (x : Reading) → n ≡ false → told n v u s f x ≡ Spoilt spoils.Names
at_names n v u s f x e = rw e refl

at_version : (n v u s f : Bool) (x : Reading) → n ≡ true → v ≡ false → told n v u s f x ≡ Spoilt spoils.Version
at_version n v u s f x e g = rw (e, g) refl

at_numbers : (n v u s f : Bool) (x : Reading) → n ≡ true → v ≡ true → u ≡ false → told n v u s f x ≡ Spoilt spoils.Number
at_numbers n v u s f x e g h = rw (e, g, h) refl

at_sign : (n v u s f : Bool) (x : Reading) → n ≡ true → v ≡ true → u ≡ true → s ≡ false → told n v u s f x ≡ Spoilt spoils.Sign
at_sign n v u s f x e g h i = rw (e, g, h, i) refl

at_fragment : (n v u s f : Bool) (x : Reading) → n ≡ true → v ≡ true → u ≡ true → s ≡ true → f ≡ true → told n v u s f x ≡ Spoilt spoils.Fragment
at_fragment n v u s f x e g h i j = rw (e, g, h, i, j) refl

at_none : (n v u s f : Bool) (x : Reading) → n ≡ true → v ≡ true → u ≡ true → s ≡ true → f ≡ false → told n v u s f x ≡ x
at_none n v u s f x e g h i j = rw (e, g, h, i, j) refl

-- ---- of an element

pub spoilt_names : (e : ElementValue) → has_parameters certificate_names e ≡ false → certificate_reading e ≡ Spoilt spoils.Names
spoilt_names e n =
    let t = certificate_texts e in
    reading_is e ∙ at_names (has_parameters certificate_names e) (is_version t.ver) (certificate_numbers t) (is_some (octets_in t.sign)) (misfits t) (Certificate (certificate_block t)) n

pub spoilt_version : (e : ElementValue) → has_parameters certificate_names e ≡ true → is_version (certificate_texts e).ver ≡ false → certificate_reading e ≡ Spoilt spoils.Version
spoilt_version e n v =
    let t = certificate_texts e in
    reading_is e ∙ at_version (has_parameters certificate_names e) (is_version t.ver) (certificate_numbers t) (is_some (octets_in t.sign)) (misfits t) (Certificate (certificate_block t)) n v

pub spoilt_number : (e : ElementValue) → has_parameters certificate_names e ≡ true → is_version (certificate_texts e).ver ≡ true → certificate_numbers (certificate_texts e) ≡ false → certificate_reading e ≡ Spoilt spoils.Number
spoilt_number e n v u =
    let t = certificate_texts e in
    reading_is e ∙ at_numbers (has_parameters certificate_names e) (is_version t.ver) (certificate_numbers t) (is_some (octets_in t.sign)) (misfits t) (Certificate (certificate_block t)) n v u

pub spoilt_sign : (e : ElementValue) → has_parameters certificate_names e ≡ true → is_version (certificate_texts e).ver ≡ true → certificate_numbers (certificate_texts e) ≡ true
    → is_some (octets_in (certificate_texts e).sign) ≡ false → certificate_reading e ≡ Spoilt spoils.Sign
spoilt_sign e n v u s =
    let t = certificate_texts e in
    reading_is e ∙ at_sign (has_parameters certificate_names e) (is_version t.ver) (certificate_numbers t) (is_some (octets_in t.sign)) (misfits t) (Certificate (certificate_block t)) n v u s

pub spoilt_fragment : (e : ElementValue) → has_parameters certificate_names e ≡ true → is_version (certificate_texts e).ver ≡ true → certificate_numbers (certificate_texts e) ≡ true
    → is_some (octets_in (certificate_texts e).sign) ≡ true → misfits (certificate_texts e) ≡ true → certificate_reading e ≡ Spoilt spoils.Fragment
spoilt_fragment e n v u s f =
    let t = certificate_texts e in
    reading_is e ∙ at_fragment (has_parameters certificate_names e) (is_version t.ver) (certificate_numbers t) (is_some (octets_in t.sign)) (misfits t) (Certificate (certificate_block t)) n v u s f

pub is_block : (e : ElementValue) → has_parameters certificate_names e ≡ true → is_version (certificate_texts e).ver ≡ true → certificate_numbers (certificate_texts e) ≡ true
    → is_some (octets_in (certificate_texts e).sign) ≡ true → misfits (certificate_texts e) ≡ false → certificate_reading e ≡ Certificate (certificate_block (certificate_texts e))
is_block e n v u s f =
    let t = certificate_texts e in
    reading_is e ∙ at_none (has_parameters certificate_names e) (is_version t.ver) (certificate_numbers t) (is_some (octets_in t.sign)) (misfits t) (Certificate (certificate_block t)) n v u s f

-- ---- of a block

apart : (n v u s f : Bool) (x b : block.Certificate) → told n v u s f (Certificate x) ≡ Certificate b → (n ≡ true) × (v ≡ true) × (u ≡ true) × (s ≡ true) × (f ≡ false) × (x ≡ b)
apart true true true true false x b e = (refl, refl, refl, refl, refl, cc)
apart true true true true true x b e = absurd cc
apart true true true false f x b e = absurd cc
apart true true false s f x b e = absurd cc
apart true false u s f x b e = absurd cc
apart false v u s f x b e = absurd cc

-- no cause applies to what is read as a block
pub of_block : (e : ElementValue) (b : block.Certificate) → certificate_reading e ≡ Certificate b
    → (has_parameters certificate_names e ≡ true) × (is_version (certificate_texts e).ver ≡ true) × (certificate_numbers (certificate_texts e) ≡ true)
    × (is_some (octets_in (certificate_texts e).sign) ≡ true) × (misfits (certificate_texts e) ≡ false) × (certificate_block (certificate_texts e) ≡ b)
of_block e b h =
    let t = certificate_texts e in
    apart (has_parameters certificate_names e) (is_version t.ver) (certificate_numbers t) (is_some (octets_in t.sign)) (misfits t) (certificate_block t) b (sym (reading_is e) ∙ h)
