-- What is written without SIGN for a block is described as that block, and as exact.
use Rattle.std.proofs.Common.{◌≡◌, ℕ, Bool, true, List, [], ◌∷◌, ◌++◌, Option, Some, refl, sym, ap, ◌∙◌, arith}
use Rattle.std.specs.List.{All}
use Rattle.std.specs.Str.{bytes_eq}
use Rattle.std.proofs.lemmas.List.Elements.{recursion_from_All}
use Rattle.std.proofs.lemmas.Slice.Eq.{bytes_eq-Decides}
use Rattle.ss_message.specs.Stamp.{Moment}
use Rattle.ss_message.specs.Message.{ParameterValue, MessageValue, IsMessage, text, is_timestamp}
use Rattle.ss_message.proofs.LayoutLaws.{layout_again}
use Rattle.ss_block.specs.declared.reading.Reading.TheVariants as readings
use Rattle.ss_block.specs.Block.{Signature, IsSignature, Certificate, IsCertificate}
use Rattle.ss_block.specs.Head.{HeadValue, IsHead}
use Rattle.ss_block.specs.Reading.{signature_reading, certificate_reading, value_reading}
use Rattle.ss_block.specs.Writing.{signature_parameters, certificate_parameters, ssign_element, ssign_cert_element, block_message, unsigned_signature_text, unsigned_certificate_text, head_session}
use Rattle.ss_block.specs.WritingLaws.{IsHash}
use Rattle.ss_block.proofs.WrittenMessages.{is_message}
use Rattle.ss_block.proofs.WrittenSignatures as signatures
use Rattle.ss_block.proofs.WrittenCertificates as certificates
use Rattle.ss_signed.specs.Completed.{completed_value}
use Rattle.ss_signed.specs.Described.{of_signature, of_certificate, described_as, described_from, value_described, described}
use Rattle.ss_signed.proofs.Signs.{octet_zero, zero_bytes, sign_written}
use Rattle.ss_signed.proofs.Again.{signature_with, certificate_with}

-- the text of a message is described as its value is
pub of_value : (octets : List ℕ) (v : MessageValue) → IsMessage v → octets ≡ text v → described octets ≡ value_described octets v
unfolding described
of_value octets v valid spelled =
    let a = layout_again octets v valid spelled in
    ap (described_from octets) a.read ∙ ap (value_described octets) a.says

itself : (octets : List ℕ) → bytes_eq octets octets ≡ true
itself octets = (bytes_eq-Decides octets octets).1 refl

signature_zero : (b : Signature) → IsSignature b → IsSignature (signature_with octet_zero b)
signature_zero b is = record { rsid = is.rsid; group = is.group; gbc = is.gbc; some_first = is.some_first; some_hash = is.some_hash; at_most_99_hashes = is.at_most_99_hashes; hashes = is.hashes; last = is.last }

certificate_zero : (b : Certificate) → IsCertificate b → IsCertificate (certificate_with octet_zero b)
certificate_zero b is = record { rsid = is.rsid; group = is.group; total = is.total; some_index = is.some_index; some_octet = is.some_octet; at_most_9999_octets = is.at_most_9999_octets; within = is.within; fragment = is.fragment }

pub signature_exact : (h : HeadValue) (stamp : Option Moment) (b : Signature) → IsHead h → is_timestamp stamp ≡ true → IsSignature b → All IsHash b.hashes
    → described (unsigned_signature_text h stamp b) ≡ Some (of_signature (head_session h b.rsid) b true)
signature_exact h stamp b head moment is hashes =
    let octets : List ℕ = unsigned_signature_text h stamp b in
    let v : MessageValue = block_message h stamp (signatures.unsigned_element b) in
    let valid : IsMessage v = is_message h stamp (signatures.unsigned_element b) head moment (signatures.names_unsigned b) (signatures.raws_unsigned b is) in
    let c : Signature = signature_with octet_zero b in
    let same : value_reading (completed_value v) ≡ signature_reading (signatures.signed_element c) = ap (λ (p : ParameterValue). signature_reading (ssign_element (signature_parameters b ++ p ∷ []))) (sym sign_written) in
    let again : value_reading (completed_value v) ≡ readings.Signature c = same ∙ signatures.signature_again c (signature_zero b is) (recursion_from_All IsHash b.hashes hashes) zero_bytes (omega arith) in
    of_value octets v valid refl
    ∙ ap (described_as octets h stamp) again
    ∙ ap (λ (x : Bool). Some (of_signature (head_session h b.rsid) b x)) (itself octets)

pub certificate_exact : (h : HeadValue) (stamp : Option Moment) (b : Certificate) → IsHead h → is_timestamp stamp ≡ true → IsCertificate b
    → described (unsigned_certificate_text h stamp b) ≡ Some (of_certificate (head_session h b.rsid) b true)
certificate_exact h stamp b head moment is =
    let octets : List ℕ = unsigned_certificate_text h stamp b in
    let v : MessageValue = block_message h stamp (certificates.unsigned_element b) in
    let valid : IsMessage v = is_message h stamp (certificates.unsigned_element b) head moment (certificates.names_unsigned b) (certificates.raws_unsigned b is) in
    let c : Certificate = certificate_with octet_zero b in
    let same : value_reading (completed_value v) ≡ certificate_reading (certificates.signed_element c) = ap (λ (p : ParameterValue). certificate_reading (ssign_cert_element (certificate_parameters b ++ p ∷ []))) (sym sign_written) in
    let again : value_reading (completed_value v) ≡ readings.Certificate c = same ∙ certificates.certificate_again c (certificate_zero b is) zero_bytes (omega arith) in
    of_value octets v valid refl
    ∙ ap (described_as octets h stamp) again
    ∙ ap (λ (x : Bool). Some (of_certificate (head_session h b.rsid) b x)) (itself octets)
