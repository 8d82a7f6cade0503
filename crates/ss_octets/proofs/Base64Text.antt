-- Octets and their base64 determine each other, and base64 has no octets but its own symbols in it.
use Rattle.std.proofs.Common.{◌≡◌, ℕ, zero, suc, ◌/◌, ◌%◌, ◌*◌, ◌+◌, ◌≤◌, length, arith, ◌&&◌, Bool, true, false, not, eqb, List, [], ◌∷◌, ◌++◌, Some, Result, Ok, Err, ap, subst, ◌∙◌, replicate, slice_index, refl}
use Rattle.std.specs.List.{All, AllByRecursion, list_all}
use Rattle.std.proofs.lemmas.List.Elements.{All-from_recursion}
use Rattle.base64.specs.Rfc4648.{encode_symbols}
use Rattle.base64.specs.declared.decode.DecodeError.{DecodeError}
use Rattle.base64.specs.Engines.{standard}
use Rattle.base64.specs.GeneralPurpose.{IsBytes, decode_of, engine_symbols}
use Rattle.base64.proofs.EngineFacts.{decode_of-encode_of, decode_of_strict}
use Rattle.ss_octets.specs.StrictBase64.{some_octets, octets_decoded, octets_in, base64}

pub some_octets_of : (b : List ℕ) → 1 ≤ length b → some_octets b ≡ Some b
some_octets_of [] some = absurd (omega arith)
some_octets_of (x ∷ b) some = refl

-- base64 determines the octets that it spells
pub octets_in-base64 : (b : List ℕ) → IsBytes b → 1 ≤ length b → octets_in (base64 b) ≡ Some b
unfolding octets_in base64
octets_in-base64 b bytes some = ap octets_decoded (decode_of-encode_of standard b refl bytes) ∙ some_octets_of b some

pub decoded_some : (r : Result (List ℕ) DecodeError) (b : List ℕ) → octets_decoded r ≡ Some b → (r ≡ Ok b) × (1 ≤ length b)
decoded_some (Ok []) b e = absurd cc
decoded_some (Ok (x ∷ octets)) b e = let same : x ∷ octets ≡ b = cc in (ap Ok same, subst (λ (l : List ℕ). 1 ≤ length l) same (omega arith))
decoded_some (Err e) b h = absurd cc

-- what holds of a text that spells octets; each octet of the text is below 256
pub record IsBase64 (text b : List ℕ) : Type 0 where
  pub spelled : text ≡ base64 b
  pub some : 1 ≤ length b

pub is_base64 : (text b : List ℕ) → IsBytes text → octets_in text ≡ Some b → IsBase64 text b
unfolding octets_in base64
is_base64 text b bytes e =
    let d = decoded_some (decode_of standard text) b e in
    record { spelled = decode_of_strict standard text b (refl, refl) bytes d.0; some = d.1 }

-- ---- what no base64 has in it

-- the octet stands nowhere in the text
abbrev pub Clear : ℕ → List ℕ → Type 0
Clear c text = AllByRecursion (λ x. eqb x c ≡ false) text

pub Clear-append : (c : ℕ) (a b : List ℕ) → Clear c a → Clear c b → Clear c (a ++ b)
Clear-append c [] b h k = k
Clear-append c (x ∷ a) b h k = (h.0, Clear-append c a b h.1 k)

Clear-replicate : (c pad n : ℕ) → eqb pad c ≡ false → Clear c (replicate n pad)
Clear-replicate c pad zero h = tt
Clear-replicate c pad (suc n) h = (h, Clear-replicate c pad n h)

passes : (b d : Bool) → (not b && d) ≡ true → (b ≡ false) × (d ≡ true)
passes true d h = cc
passes false d h = (refl, h)

-- a list that lacks the octet, which isn't the default either, has it at no index
clear_at : (c : ℕ) (t : List ℕ) → list_all (λ x. not (eqb x c)) t ≡ true → eqb 0 c ≡ false → (i : ℕ) → eqb (slice_index t i) c ≡ false
clear_at c [] h none i = none
clear_at c (x ∷ t) h none zero = (passes (eqb x c) _ h).0
clear_at c (x ∷ t) h none (suc i) = clear_at c t (passes (eqb x c) _ h).1 none i

Clear-encode_symbols : (c : ℕ) (t m : List ℕ) → ((i : ℕ) → eqb (slice_index t i) c ≡ false) → Clear c (encode_symbols t m)
unfolding encode_symbols
Clear-encode_symbols c t [] h = tt
Clear-encode_symbols c t (a ∷ []) h = (h (a / 4), (h (a % 4 * 16), tt))
Clear-encode_symbols c t (a ∷ b ∷ []) h = (h (a / 4), (h (a % 4 * 16 + b / 16), (h (b % 16 * 4), tt)))
Clear-encode_symbols c t (a ∷ b ∷ d ∷ rest) h =
    (h (a / 4), (h (a % 4 * 16 + b / 16), (h (b % 16 * 4 + d / 64), (h (d % 64), Clear-encode_symbols c t rest h))))

-- an octet that is no symbol, no `=` and not 0 stands in no base64
pub Clear-base64 : (c : ℕ) (octets : List ℕ) → list_all (λ x. not (eqb x c)) (engine_symbols standard) ≡ true → eqb 0 c ≡ false → eqb 61 c ≡ false → Clear c (base64 octets)
unfolding base64
Clear-base64 c octets none default pad =
    Clear-append c _ _ (Clear-encode_symbols c (engine_symbols standard) octets (clear_at c (engine_symbols standard) none default)) (Clear-replicate c 61 _ pad)

-- no SP in base64
pub no_space : (octets : List ℕ) → All (λ x. eqb x 32 ≡ false) (base64 octets)
no_space octets = All-from_recursion (λ x. eqb x 32 ≡ false) _ (Clear-base64 32 octets refl refl refl)
