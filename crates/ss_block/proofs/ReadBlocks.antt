-- What holds of a text that is read as a block.
use Rattle.std.proofs.Common.{◌≡◌, ℕ, true, List, Option, Some, None, Result, Ok, Err, refl, sym, ◌∙◌}
use Rattle.std.specs.Prelude.{codes, is_some}
use Rattle.std.specs.List.{list_all}
use Rattle.ss_message.specs.declared.fault.BadPart.{BadPart}
use Rattle.ss_message.specs.Message.{ElementValue, MessageValue, has_raws}
use Rattle.ss_message.specs.Layout.{Layout, value_at}
use Rattle.ss_message.specs.Reading.{layout_at}
use Rattle.ss_message.specs.Laws.{FaultsAreOfNoMessage}
use Rattle.ss_block.specs.declared.spoil.Spoil.{Spoil}
use Rattle.ss_block.specs.declared.reading.Reading.{Reading}
use Rattle.ss_block.specs.declared.reading.Reading.TheVariants.{Plain, Unparsed, Signature, Certificate, Spoilt}
use Rattle.ss_block.specs.Block as block
use Rattle.ss_block.specs.Block.{IsSignature, IsCertificate}
use Rattle.ss_block.specs.Reading.{has_parameters, first_cause, signature_names, signature_texts, signature_causes, signature_block, signature_reading, certificate_names, certificate_texts, certificate_causes, certificate_block, certificate_reading, unless_spoilt, element_with, reading_with, reading_from, reading}
use Rattle.ss_block.specs.ReadingLaws.{is_block}
use Rattle.ss_block.specs.Session.{session, session_at, session_if_block}
use Rattle.ss_block.specs.Signed.{signed, signed_from, signed_if_block}
use Rattle.ss_block.proofs.Values.{raws_with}
use Rattle.ss_block.proofs.Readings.{reading_is}
use Rattle.ss_block.proofs.SignatureBlocks as signatures
use Rattle.ss_block.proofs.CertificateBlocks as certificates

-- ---- its ranges

no_signature : (e : ElementValue) (b : block.Signature) → certificate_reading e ≡ Signature b → ⊥
unfolding certificate_reading
no_signature e b h = by_cause (first_cause (certificate_causes (has_parameters certificate_names e) (certificate_texts e))) (certificate_block (certificate_texts e)) b h
  where
    by_cause : (cause : Option Spoil) (x : block.Certificate) (b : block.Signature) → unless_spoilt cause (Certificate x) ≡ Signature b → ⊥
    by_cause None x b h = absurd cc
    by_cause (Some cause) x b h = absurd cc

no_certificate : (e : ElementValue) (b : block.Certificate) → signature_reading e ≡ Certificate b → ⊥
unfolding signature_reading
no_certificate e b h = by_cause (first_cause (signature_causes (has_parameters signature_names e) (signature_texts e))) (signature_block (signature_texts e)) b h
  where
    by_cause : (cause : Option Spoil) (x : block.Signature) (b : block.Certificate) → unless_spoilt cause (Signature x) ≡ Certificate b → ⊥
    by_cause None x b h = absurd cc
    by_cause (Some cause) x b h = absurd cc

signature_there : (s c : Option ElementValue) (b : block.Signature) → reading_with s c ≡ Signature b → IsSignature b
signature_there None None b h = absurd cc
signature_there (Some e) None b h = signatures.is_in_range e b h
signature_there None (Some e) b h = absurd (no_signature e b h)
signature_there (Some e) (Some f) b h = absurd cc

certificate_there : (es : List ElementValue) (s c : Option ElementValue) (b : block.Certificate) → list_all has_raws es ≡ true → c ≡ element_with (codes "ssign-cert") es → reading_with s c ≡ Certificate b → IsCertificate b
certificate_there es None None b raws found h = absurd cc
certificate_there es (Some e) None b raws found h = absurd (no_certificate e b h)
certificate_there es None (Some e) b raws found h = certificates.is_in_range e b (raws_with (codes "ssign-cert") es e raws found) h
certificate_there es (Some e) (Some f) b raws found h = absurd cc

pub signature_in_range : (t : List ℕ) (b : block.Signature) → reading t ≡ Signature b → IsSignature b
signature_in_range t b told = by_layout t b (layout_at t) (sym (reading_is t (layout_at t) refl) ∙ told)
  where
    by_layout : (t : List ℕ) (b : block.Signature) (r : Result Layout BadPart) → reading_from t r ≡ Signature b → IsSignature b
    by_layout t b (Ok l) told =
        let es = (value_at t l).elements in
        signature_there (element_with (codes "ssign") es) (element_with (codes "ssign-cert") es) b told
    by_layout t b (Err e) told = absurd cc

pub certificate_in_range : FaultsAreOfNoMessage → (t : List ℕ) (b : block.Certificate) → reading t ≡ Certificate b → IsCertificate b
certificate_in_range faults t b told = by_layout faults t b (layout_at t) refl (sym (reading_is t (layout_at t) refl) ∙ told)
  where
    by_layout : FaultsAreOfNoMessage → (t : List ℕ) (b : block.Certificate) (r : Result Layout BadPart) → layout_at t ≡ r → reading_from t r ≡ Certificate b → IsCertificate b
    by_layout faults t b (Ok l) layout told =
        let es = (value_at t l).elements in
        certificate_there es (element_with (codes "ssign") es) (element_with (codes "ssign-cert") es) b (faults.0 t l layout).0.raws refl told
    by_layout faults t b (Err e) layout told = absurd cc

-- ---- what is signed, and the session

pub signed_there : (t : List ℕ) → is_some (signed t) ≡ is_block (reading t)
unfolding signed reading
signed_there t = by_layout t (layout_at t)
  where
    by_reading : (r : Reading) (v : MessageValue) → is_some (signed_if_block r v) ≡ is_block r
    by_reading Plain v = refl
    by_reading (Unparsed part pos) v = refl
    by_reading (Signature b) v = refl
    by_reading (Certificate b) v = refl
    by_reading (Spoilt cause) v = refl

    by_layout : (t : List ℕ) (r : Result Layout BadPart) → is_some (signed_from t r) ≡ is_block (reading_from t r)
    by_layout t (Ok l) = by_reading (reading_from t (Ok l)) (value_at t l)
    by_layout t (Err e) = refl

pub session_there : (t : List ℕ) → is_some (session t) ≡ is_block (reading t)
unfolding session reading
session_there t = by_layout t (layout_at t)
  where
    by_reading : (r : Reading) (v : MessageValue) → is_some (session_if_block r v) ≡ is_block r
    by_reading Plain v = refl
    by_reading (Unparsed part pos) v = refl
    by_reading (Signature b) v = refl
    by_reading (Certificate b) v = refl
    by_reading (Spoilt cause) v = refl

    by_layout : (t : List ℕ) (r : Result Layout BadPart) → is_some (session_at t r) ≡ is_block (reading_from t r)
    by_layout t (Ok l) = by_reading (reading_from t (Ok l)) (value_at t l)
    by_layout t (Err e) = refl
