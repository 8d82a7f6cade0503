-- The element of a written certificate block, read again.
use Rattle.std.proofs.Common.{◌≡◌, ◌==◌, ℕ, ◌+◌, ◌≤◌, true, false, not, List, [], ◌∷◌, ◌++◌, length, refl, sym, ap, ◌∙◌, arith}
use Rattle.std.specs.Prelude.{is_some, decimal, nat_lt}
use Rattle.std.proofs.lemmas.Bool.{and_from, or_from, eq-eqb, le-ltb, not_from_true}
use Rattle.base64.specs.GeneralPurpose.{IsBytes}
use Rattle.ss_message.specs.Message.{ElementValue, has_raws, has_names}
use Rattle.ss_message.specs.Octets.{is_name}
use Rattle.ss_message.proofs.TextEscapes.{text_is_raw}
use Rattle.ss_block.specs.declared.reading.Reading.TheVariants as readings
use Rattle.ss_block.specs.Block.{Certificate, IsCertificate}
use Rattle.ss_octets.specs.StrictBase64.{octets_in, base64}
use Rattle.ss_octets.specs.Number.{number}
use Rattle.ss_payload.specs.Ranges.{longest_payload}
use Rattle.ss_block.specs.Causes.{misfits}
use Rattle.ss_block.specs.Reading.{CertificateTexts, certificate_texts, certificate_numbers, certificate_block, certificate_reading}
use Rattle.ss_block.specs.Writing.{certificate_parameters, sign_parameter, ssign_cert_element}
use Rattle.ss_block.specs.Versions.{is_version, version_text}
use Rattle.ss_octets.proofs.Base64Text.{octets_in-base64}
use Rattle.ss_block.proofs.BlockFields.{AreWritten, written, meant_again, block_again}
use Rattle.ss_block.proofs.CertificateBlocks.{block_from}
use Rattle.ss_block.proofs.CertificateCauses.{is_block}
use Rattle.ss_block.proofs.WrittenValues.{raw_base64, version_is}

abbrev pub unsigned_element : Certificate → ElementValue
unsigned_element b = ssign_cert_element (certificate_parameters b)

abbrev pub signed_element : Certificate → ElementValue
signed_element b = ssign_cert_element (certificate_parameters b ++ sign_parameter b.signature ∷ [])

-- ---- the grammar

pub names_unsigned : (b : Certificate) → has_names (unsigned_element b) ≡ true
unfolding is_name
names_unsigned b = refl

pub names_signed : (b : Certificate) → has_names (signed_element b) ≡ true
unfolding is_name
names_signed b = refl

numbers_of : (b : Certificate) → IsCertificate b → AreWritten 1 longest_payload 9999 b.rsid b.group b.total b.index (length b.fragment)
numbers_of b is =
    let total = is.total in
    let some = is.some_octet in
    let within = is.within in
    written (record { rsid = is.rsid; group = is.group; some_x = omega (arith, is.some_index); most_x = total; some_y = is.some_index; most_y = omega arith; some_z = some; most_z = is.at_most_9999_octets; small = omega arith; small_count = omega arith })

pub raws_unsigned : (b : Certificate) → IsCertificate b → has_raws (unsigned_element b) ≡ true
raws_unsigned b is = (numbers_of b is).raws b.alg b.fragment [] (text_is_raw b.fragment is.fragment) refl

pub raws_signed : (b : Certificate) → IsCertificate b → has_raws (signed_element b) ≡ true
raws_signed b is = (numbers_of b is).raws b.alg b.fragment (base64 b.signature ∷ []) (text_is_raw b.fragment is.fragment) (and_from _ _ (raw_base64 b.signature) refl)

-- ---- its values

abbrev texts_from : List ℕ → List ℕ → List ℕ → List ℕ → List ℕ → List ℕ → List ℕ → List ℕ → List ℕ → CertificateTexts
texts_from ver rsid sg spri tpbl index flen frag sign = record { ver = ver; rsid = rsid; sg = sg; spri = spri; tpbl = tpbl; index = index; flen = flen; frag = frag; sign = sign }

abbrev texts : Certificate → CertificateTexts
texts b = texts_from (version_text b.alg) (decimal b.rsid) (decimal b.group.sg) (decimal b.group.spri) (decimal b.total) (decimal b.index) (decimal (length b.fragment)) b.fragment (base64 b.signature)

texts_are : (b : Certificate) → certificate_texts (signed_element b) ≡ texts b
texts_are b = meant_again texts_from (version_text b.alg) (decimal b.rsid) (decimal b.group.sg) (decimal b.group.spri) (decimal b.total) (decimal b.index) (decimal (length b.fragment)) b.fragment (base64 b.signature)

-- no cause applies
pub certificate_again : (b : Certificate) → IsCertificate b → IsBytes b.signature → 1 ≤ length b.signature → certificate_reading (signed_element b) ≡ readings.Certificate b
certificate_again b is bytes signed =
    let t = texts b in
    let same : certificate_texts (signed_element b) ≡ t = texts_are b in
    let are = numbers_of b is in
    let total = are.x_is in
    let index = are.y_is in
    let octets = are.z_is in
    let within = is.within in
    let fits : misfits t ≡ false =
    or_from (nat_lt (number t.tpbl + 1) (number t.index + number t.flen)) (not (length t.frag == number t.flen)) (le-ltb _ _ (omega arith)) (not_from_true _ (eq-eqb _ _ (sym octets))) in
    is_block (signed_element b) refl
    (ap (λ (u : CertificateTexts). is_version u.ver) same ∙ version_is b.alg)
    (ap certificate_numbers same ∙ are.in_range)
    (ap (λ (u : CertificateTexts). is_some (octets_in u.sign)) same ∙ ap is_some (octets_in-base64 b.signature bytes signed))
    (ap misfits same ∙ fits)
    ∙ ap (λ (u : CertificateTexts). readings.Certificate (certificate_block u)) same
    ∙ ap readings.Certificate (block_again block_from b.alg b.fragment b.fragment b.signature are refl bytes signed)
