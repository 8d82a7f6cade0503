-- The SIGN that is put there: it is the base64 of the octet 0.
use Rattle.std.proofs.Common.{◌≡◌, ℕ, zero, suc, true, List, [], ◌∷◌, Some, refl, sym, ap, ◌∙◌, arith}
use Rattle.std.specs.Prelude.{codes}
use Rattle.base64.specs.Rfc4648.{encode_symbols}
use Rattle.base64.specs.GeneralPurpose.{IsBytes}
use Rattle.ss_octets.specs.StrictBase64.{octets_in, base64}
use Rattle.ss_octets.proofs.Base64Text.{octets_in-base64}
use Rattle.ss_message.specs.Octets.{is_name}
use Rattle.ss_message.specs.Raw.{is_raw, escaped}
use Rattle.ss_message.specs.Message.{parameter_text}
use Rattle.ss_block.specs.Writing as writing
use Rattle.ss_block.proofs.WrittenValues.{raw_base64}
use Rattle.ss_signed.specs.Completed.{some_sign}
use Rattle.ss_signed.specs.Places.{sign_text}

abbrev pub octet_zero : List ℕ
octet_zero = 0 ∷ []

pub base64_zero : base64 octet_zero ≡ codes "AA=="
unfolding base64 encode_symbols
base64_zero = refl

pub zero_bytes : IsBytes octet_zero
zero_bytes zero = omega arith
zero_bytes (suc i) = omega arith

pub sign_read : octets_in (codes "AA==") ≡ Some octet_zero
sign_read = ap octets_in (sym base64_zero) ∙ octets_in-base64 octet_zero zero_bytes (omega arith)

pub sign_name : is_name (codes "SIGN") ≡ true
unfolding is_name
sign_name = refl

pub sign_raw : is_raw (codes "AA==") ≡ true
sign_raw = ap (λ (s : List ℕ). is_raw (escaped s)) (sym base64_zero) ∙ raw_base64 octet_zero

pub sign_spelled : parameter_text some_sign ≡ sign_text
sign_spelled = refl

-- the writer writes the same
pub sign_written : writing.sign_parameter octet_zero ≡ some_sign
sign_written = ap (writing.parameter (codes "SIGN")) base64_zero
