-- A text of base64 has no space and no line feed in it, is no shorter than its octets, and stands for them alone.
use Rattle.std.proofs.Common.{◌≡◌, ℕ, ◌≤◌, length, length-append, arith, List, [], ◌∷◌, Ok, ap, replicate, refl}
use Rattle.base64.specs.Rfc4648.{encode_symbols, padding_len}
use Rattle.base64.specs.Engines.{standard}
use Rattle.base64.specs.GeneralPurpose.{IsBytes, decode_of, encode_of, engine_symbols}
use Rattle.ss_octets.specs.Ascii.{lf, sp}
use Rattle.base64.proofs.EngineFacts.{decode_of-encode_of}
use Rattle.ss_octets.specs.StrictBase64.{base64}
use Rattle.ss_octets.proofs.Base64Text.{Clear, Clear-base64, no_space}
use Rattle.ss_answers.specs.Lines.{Lacks}

pub Lacks-space : (octets : List ℕ) → Lacks sp (base64 octets)
Lacks-space octets = no_space octets

pub no_line_feed : (octets : List ℕ) → Clear lf (base64 octets)
no_line_feed octets = Clear-base64 lf octets refl refl refl

length-encode_symbols-le : (t m : List ℕ) → length m ≤ length (encode_symbols t m)
unfolding encode_symbols
length-encode_symbols-le t [] = omega arith
length-encode_symbols-le t (a ∷ []) = omega arith
length-encode_symbols-le t (a ∷ b ∷ []) = omega arith
length-encode_symbols-le t (a ∷ b ∷ d ∷ rest) = omega (arith, length-encode_symbols-le t rest)

-- base64 is no shorter than what it stands for
pub length-base64 : (octets : List ℕ) → length octets ≤ length (base64 octets)
unfolding base64
length-base64 octets =
    omega (
      arith,
      length-encode_symbols-le (engine_symbols standard) octets,
      length-append (encode_symbols (engine_symbols standard) octets) (replicate (padding_len (length octets)) 61),
    )

-- octets of one text are the same
pub base64-injective : (a b : List ℕ) → IsBytes a → IsBytes b → base64 a ≡ base64 b → a ≡ b
unfolding base64
base64-injective a b bytes others same =
    let one : decode_of standard (encode_of standard a) ≡ Ok a = decode_of-encode_of standard a refl bytes in
    let two : decode_of standard (encode_of standard b) ≡ Ok b = decode_of-encode_of standard b refl others in
    let both : decode_of standard (encode_of standard a) ≡ decode_of standard (encode_of standard b) = ap (decode_of standard) same in
    cc
