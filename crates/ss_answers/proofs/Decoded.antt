-- A text that was decoded after octets is a field.
use Rattle.std.proofs.Common.{◌≡◌, ℕ, ◌+◌, ◌<◌, ◌≤◌, List, length, ◌++◌, take, drop, Ok, Err, sym, refl, ap, ◌∙◌, arith, length-append}
use Rattle.std.proofs.lemmas.List.{take-append-drop}
use Rattle.base64.specs.Engines.{standard}
use Rattle.base64.specs.GeneralPurpose.{IsBytes, IsStrict, decode_of}
use Rattle.base64.specs.declared.decode.DecodeError.{DecodeError}
use Rattle.base64.proofs.EngineFacts.{decode_of-encode_of, decode_of_strict}
use Rattle.ss_octets.specs.StrictBase64.{base64}
use Rattle.ss_answers.specs.Answers.{IsField, IsNoField}
use Rattle.ss_answers.specs.AnswerLine.{KeepsField}
use Rattle.ss_answers.proofs.Base64Text.{length-base64}
use Rattle.ss_answers.proofs.KeptLines.{part-last}

is_strict : IsStrict standard
is_strict = (refl, refl)

-- the text is the base64 of what it was decoded to
spells : (text field : List ℕ) → IsBytes text → decode_of standard text ≡ Ok field → text ≡ base64 field
unfolding base64
spells text field bytes decoded = decode_of_strict standard text field is_strict bytes decoded

behind : (n : ℕ) (old new : List ℕ) → take n new ≡ old → new ≡ old ++ drop n new
behind n old new front = sym (take-append-drop n new) ∙ ap (λ t. t ++ drop n new) front

-- it has no more octets than the text
pub length-decoded : (n : ℕ) (old new text : List ℕ) → IsBytes text → decode_of standard text ≡ Ok (drop n new) → take n new ≡ old
    → length new ≤ length old + length text
length-decoded n old new text bytes decoded front =
    let appended = ap length (behind n old new front) in
    let spelt = ap length (spells text (drop n new) bytes decoded) in
    omega (arith, appended, spelt, length-append old (drop n new), length-base64 (drop n new))

pub KeepsField-decoded : (n start end : ℕ) (old new text : List ℕ) → IsBytes text → decode_of standard text ≡ Ok (drop n new)
    → take n new ≡ old → IsBytes (drop n new) → start ≡ length old → end ≡ length new → (start ≡ end → ⊥)
    → KeepsField old new text (record { start = start; end = end })
KeepsField-decoded n start end old new text bytes decoded front octets starts ends apart =
    let field = drop n new in
    let appended = behind n old new front in
    let spelt = spells text field bytes decoded in
    let long = length-append old field in
    let short = length-base64 field in
    let whole = ap length appended in
    let some : 0 < length field = grind (arith, long, whole, apart) in
    record {
      has = record {
        field = field;
        is_field = record { bytes = octets; some = some };
        spelt = spelt;
        here = part-last old new field start end appended starts ends;
        within = omega arith;
      };
      grows = record { more = field; appended = appended; size = omega (arith, short, ap length spelt) };
      start = starts;
      end = ends;
    }

-- what was decoded to nothing is no field, and neither is what wasn't decoded
decoded_once : (text field octets : List ℕ) → decode_of standard text ≡ Ok field → IsField octets → text ≡ base64 octets → field ≡ octets
unfolding base64
decoded_once text field octets decoded is spelt =
    let again : decode_of standard (base64 octets) ≡ Ok octets = decode_of-encode_of standard octets refl is.bytes in
    let same : decode_of standard text ≡ decode_of standard (base64 octets) = ap (decode_of standard) spelt in
    cc

pub IsNoField-empty : (n start end : ℕ) (old new text : List ℕ) → decode_of standard text ≡ Ok (drop n new) → take n new ≡ old
    → start ≡ length old → end ≡ length new → start ≡ end → IsNoField text
IsNoField-empty n start end old new text decoded front starts ends same = λ octets is spelt.
    let once = ap length (decoded_once text (drop n new) octets decoded is spelt) in
    let whole = ap length (behind n old new front) in
    let long = length-append old (drop n new) in
    let some = is.some in
    absurd (omega (arith, once, whole, long, some))

pub IsNoField-failed : (text : List ℕ) (fault : DecodeError) → decode_of standard text ≡ Err fault → IsNoField text
unfolding base64
IsNoField-failed text fault failed = λ octets is spelt.
    let again : decode_of standard (base64 octets) ≡ Ok octets = decode_of-encode_of standard octets refl is.bytes in
    let same : decode_of standard text ≡ decode_of standard (base64 octets) = ap (decode_of standard) spelt in
    cc
