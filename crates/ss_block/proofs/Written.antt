-- The messages of blocks, read again.
use Rattle.std.proofs.Common.{◌≡◌, ℕ, ◌≤◌, true, List, length, Option, Result, Ok, Err, ap, sym, subst, ◌∙◌}
use Rattle.std.specs.Prelude.{IfOk}
use Rattle.std.specs.List.{All}
use Rattle.std.proofs.lemmas.List.Elements.{recursion_from_All}
use Rattle.base64.specs.GeneralPurpose.{IsBytes}
use Rattle.ss_message.specs.Stamp.{Moment}
use Rattle.ss_message.specs.Message.{MessageValue, IsMessage, is_timestamp}
use Rattle.ss_block.specs.declared.reading.Reading.{Reading}
use Rattle.ss_block.specs.declared.reading.Reading.TheVariants as readings
use Rattle.ss_block.specs.Block.{Signature, IsSignature, Certificate, IsCertificate}
use Rattle.ss_block.specs.Head.{HeadValue, IsHead}
use Rattle.ss_block.specs.Session.{session_if_block}
use Rattle.ss_block.specs.Signed.{signed_if_block}
use Rattle.ss_block.specs.Writing.{block_message, signature_text, unsigned_signature_text, certificate_text, unsigned_certificate_text, head_session}
use Rattle.ss_block.specs.WritingLaws.{IsHash, IsBlockText}
use Rattle.ss_block.proofs.WrittenMessages.{is_message, read_again, signed_again, session_again}
use Rattle.ss_block.proofs.WrittenSignatures as signatures
use Rattle.ss_block.proofs.WrittenCertificates as certificates

pub signature_is_read : (h : HeadValue) (stamp : Option Moment) (b : Signature) → IsHead h → is_timestamp stamp ≡ true → IsSignature b → All IsHash b.hashes → IsBytes b.signature → 1 ≤ length b.signature
    → IsBlockText (signature_text h stamp b) (readings.Signature b) (unsigned_signature_text h stamp b) (head_session h b.rsid)
signature_is_read h stamp b head moment is hashes bytes signed =
    let v : MessageValue = block_message h stamp (signatures.signed_element b) in
    let valid : IsMessage v = is_message h stamp (signatures.signed_element b) head moment (signatures.names_signed b) (signatures.raws_signed b is) in
    let again = signatures.signature_again b is (recursion_from_All IsHash b.hashes hashes) bytes signed in
    record {
      read = read_again v valid ∙ again;
      signed = signed_again v valid ∙ ap (λ (r : Reading). signed_if_block r v) again;
      session = session_again v valid ∙ ap (λ (r : Reading). session_if_block r v) again;
    }

pub certificate_is_read : (h : HeadValue) (stamp : Option Moment) (b : Certificate) → IsHead h → is_timestamp stamp ≡ true → IsCertificate b → IsBytes b.signature → 1 ≤ length b.signature
    → IsBlockText (certificate_text h stamp b) (readings.Certificate b) (unsigned_certificate_text h stamp b) (head_session h b.rsid)
certificate_is_read h stamp b head moment is bytes signed =
    let v : MessageValue = block_message h stamp (certificates.signed_element b) in
    let valid : IsMessage v = is_message h stamp (certificates.signed_element b) head moment (certificates.names_signed b) (certificates.raws_signed b is) in
    let again = certificates.certificate_again b is bytes signed in
    record {
      read = read_again v valid ∙ again;
      signed = signed_again v valid ∙ ap (λ (r : Reading). signed_if_block r v) again;
      session = session_again v valid ∙ ap (λ (r : Reading). session_if_block r v) again;
    }

-- what a call wrote has what its text has
pub holds : {E : Type 0} (r : Result (List ℕ) E) (t : List ℕ) (P : List ℕ → Type 0) → IfOk r (λ x. x ≡ t) → P t → IfOk r P
holds (Ok x) t P is here = subst P (sym is) here
holds (Err e) t P is here = tt
