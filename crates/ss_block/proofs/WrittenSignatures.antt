-- The element of a written signature block, read again.
use Rattle.std.proofs.Common.{◌≡◌, ℕ, ◌+◌, ◌≤◌, true, List, [], ◌∷◌, ◌++◌, length, refl, sym, ap, ◌∙◌, arith}
use Rattle.std.specs.Prelude.{is_some, decimal, nat_lt}
use Rattle.std.specs.List.{AllByRecursion, list_all}
use Rattle.std.proofs.lemmas.Bool.{and_from, eq-eqb, le-ltb}
use Rattle.std.proofs.lemmas.List.{length-map}
use Rattle.base64.specs.GeneralPurpose.{IsBytes}
use Rattle.ss_message.specs.Message.{ElementValue, has_raws, has_names}
use Rattle.ss_message.specs.Octets.{is_name}
use Rattle.ss_block.specs.declared.hash.Alg.{Alg}
use Rattle.ss_block.specs.declared.reading.Reading.TheVariants as readings
use Rattle.ss_block.specs.Block.{Signature, IsSignature}
use Rattle.ss_octets.specs.StrictBase64.{octets_in, base64}
use Rattle.ss_octets.specs.Number.{number}
use Rattle.ss_block.specs.Causes.{hash_causes}
use Rattle.ss_block.specs.Ranges.{last_number}
use Rattle.ss_block.specs.Reading.{first_cause, hash_in, hashes_in, pieces, SignatureTexts, signature_texts, signature_numbers, signature_block, signature_reading}
use Rattle.ss_block.specs.Writing.{hashes_text, signature_parameters, sign_parameter, ssign_element}
use Rattle.ss_block.specs.WritingLaws.{IsHash}
use Rattle.ss_block.specs.Versions.{is_version, alg_of, version_text}
use Rattle.ss_octets.proofs.Base64Text.{octets_in-base64}
use Rattle.ss_block.proofs.BlockFields.{AreWritten, written, meant_again, block_again}
use Rattle.ss_block.proofs.SignatureBlocks.{block_from}
use Rattle.ss_block.proofs.SignatureCauses.{is_block, counted, hashed, neither}
use Rattle.ss_block.proofs.WrittenValues.{raw_hashes, raw_base64, version_is, alg_is, pieces_some, all_hashes, hashes_again}

abbrev pub unsigned_element : Signature → ElementValue
unsigned_element b = ssign_element (signature_parameters b)

abbrev pub signed_element : Signature → ElementValue
signed_element b = ssign_element (signature_parameters b ++ sign_parameter b.signature ∷ [])

-- ---- the grammar

pub names_unsigned : (b : Signature) → has_names (unsigned_element b) ≡ true
unfolding is_name
names_unsigned b = refl

pub names_signed : (b : Signature) → has_names (signed_element b) ≡ true
unfolding is_name
names_signed b = refl

numbers_of : (b : Signature) → IsSignature b → AreWritten 0 last_number 99 b.rsid b.group b.gbc b.first (length b.hashes)
numbers_of b is =
    let last = is.last in
    let some = is.some_hash in
    written (record { rsid = is.rsid; group = is.group; some_x = omega arith; most_x = is.gbc; some_y = is.some_first; most_y = omega arith; some_z = some; most_z = is.at_most_99_hashes; small = omega arith; small_count = omega arith })

pub raws_unsigned : (b : Signature) → IsSignature b → has_raws (unsigned_element b) ≡ true
raws_unsigned b is = (numbers_of b is).raws b.alg (hashes_text b.hashes) [] (raw_hashes b.hashes) refl

pub raws_signed : (b : Signature) → IsSignature b → has_raws (signed_element b) ≡ true
raws_signed b is = (numbers_of b is).raws b.alg (hashes_text b.hashes) (base64 b.signature ∷ []) (raw_hashes b.hashes) (and_from _ _ (raw_base64 b.signature) refl)

-- ---- its values

abbrev texts_from : List ℕ → List ℕ → List ℕ → List ℕ → List ℕ → List ℕ → List ℕ → List ℕ → List ℕ → SignatureTexts
texts_from ver rsid sg spri gbc fmn cnt hb sign = record { ver = ver; rsid = rsid; sg = sg; spri = spri; gbc = gbc; fmn = fmn; cnt = cnt; hb = hb; sign = sign }

abbrev texts : Signature → SignatureTexts
texts b = texts_from (version_text b.alg) (decimal b.rsid) (decimal b.group.sg) (decimal b.group.spri) (decimal b.gbc) (decimal b.first) (decimal (length b.hashes)) (hashes_text b.hashes) (base64 b.signature)

texts_are : (b : Signature) → signature_texts (signed_element b) ≡ texts b
texts_are b = meant_again texts_from (version_text b.alg) (decimal b.rsid) (decimal b.group.sg) (decimal b.group.spri) (decimal b.gbc) (decimal b.first) (decimal (length b.hashes)) (hashes_text b.hashes) (base64 b.signature)

-- no cause applies
pub signature_again : (b : Signature) → IsSignature b → AllByRecursion IsHash b.hashes → IsBytes b.signature → 1 ≤ length b.signature → signature_reading (signed_element b) ≡ readings.Signature b
signature_again b is octets bytes signed =
    let t = texts b in
    let same : signature_texts (signed_element b) ≡ t = texts_are b in
    let are = numbers_of b is in
    let first = are.y_is in
    let count = are.z_is in
    let last = is.last in
    let cut = pieces_some b.hashes is.some_hash in
    let all : hashed t ≡ true =
    ap (λ (alg : Alg). list_all (λ piece. is_some (hash_in alg piece)) (pieces t.hb)) (alg_is b.alg) ∙ ap (list_all (λ piece. is_some (hash_in b.alg piece))) cut ∙ all_hashes b.alg b.hashes is.hashes octets in
    let again : hashes_in (alg_of t.ver) (pieces t.hb) ≡ b.hashes =
    ap (λ (alg : Alg). hashes_in alg (pieces t.hb)) (alg_is b.alg) ∙ ap (hashes_in b.alg) cut ∙ hashes_again b.alg b.hashes is.hashes octets in
    is_block (signed_element b) refl
    (ap (λ (u : SignatureTexts). is_version u.ver) same ∙ version_is b.alg)
    (ap signature_numbers same ∙ are.in_range)
    (ap (λ (u : SignatureTexts). first_cause (hash_causes u)) same ∙ neither (counted t) (hashed t) (eq-eqb _ _ (ap length cut ∙ length-map b.hashes _ ∙ sym count)) all)
    (ap (λ (u : SignatureTexts). is_some (octets_in u.sign)) same ∙ ap is_some (octets_in-base64 b.signature bytes signed))
    (ap (λ (u : SignatureTexts). nat_lt 10000000000 (number u.fmn + number u.cnt)) same ∙ le-ltb _ _ (omega arith))
    ∙ ap (λ (u : SignatureTexts). readings.Signature (signature_block u)) same
    ∙ ap readings.Signature (block_again block_from b.alg (hashes_in (alg_of t.ver) (pieces t.hb)) b.hashes b.signature are again bytes signed)
