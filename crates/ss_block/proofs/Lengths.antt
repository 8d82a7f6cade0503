-- Neither undoing escapes nor decoding base64 makes a text longer.
use Rattle.std.proofs.Common.{◌≡◌, ℕ, zero, suc, ◌+◌, ◌*◌, ◌/◌, ◌<◌, ◌≤◌, ◌==◌, Bool, true, false, cond, List, [], ◌∷◌, ◌++◌, length, replicate, Option, Some, None, refl, ap, arith, length-append}
use Rattle.std.proofs.lemmas.List.{length-replicate}
use Rattle.base64.specs.Rfc4648.{encode_symbols, padding_len}
use Rattle.base64.specs.Engines.{standard}
use Rattle.base64.specs.GeneralPurpose.{IsBytes, engine_symbols}
use Rattle.base64.proofs.RoundTrip.{length-encode_symbols}
use Rattle.ss_octets.specs.StrictBase64.{octets_in, base64}
use Rattle.ss_octets.proofs.Base64Text.{is_base64}
use Rattle.ss_message.specs.Octets.{is_special}
use Rattle.ss_message.specs.Raw.{meant, meant_after}
use Rattle.ss_block.specs.Reading.{or_none}

-- ---- escapes

-- what octets stand for, with a `\` before them or without
record AreFewer (octets : List ℕ) : Type 0 where
  alone : length (meant_after false octets) ≤ length octets
  pending : length (meant_after true octets) ≤ length octets + 1

fewer : (octets : List ℕ) → AreFewer octets
fewer [] = record { alone = omega arith; pending = omega arith }
fewer (b ∷ octets) = let rest = fewer octets in record { alone = by_backslash b octets rest (b == 92); pending = by_class b octets rest (is_special b) }
  where
    by_backslash : (b : ℕ) (octets : List ℕ) → AreFewer octets → (t : Bool) → length (cond t (meant_after true octets) (b ∷ meant_after false octets)) ≤ length (b ∷ octets)
    by_backslash b octets rest true = omega (arith, rest.pending)
    by_backslash b octets rest false = omega (arith, rest.alone)

    by_class : (b : ℕ) (octets : List ℕ) → AreFewer octets → (t : Bool) → length (cond t (b ∷ meant_after false octets) (92 ∷ b ∷ meant_after false octets)) ≤ length (b ∷ octets) + 1
    by_class b octets rest true = omega (arith, rest.alone)
    by_class b octets rest false = omega (arith, rest.alone)

pub length-meant : (raw : List ℕ) → length (meant raw) ≤ length raw
length-meant raw = (fewer raw).alone

-- ---- octets below 256

pub bytes_ahead : (b : ℕ) (x : List ℕ) → b < 256 → IsBytes x → IsBytes (b ∷ x)
bytes_ahead b x small bytes zero = small
bytes_ahead b x small bytes (suc i) = bytes i

pub bytes_behind : (front rest : List ℕ) → IsBytes (front ++ rest) → IsBytes rest
bytes_behind [] rest bytes = bytes
bytes_behind (b ∷ front) rest bytes = bytes_behind front rest (λ i. bytes (suc i))

pub bytes_before : (front rest : List ℕ) → IsBytes (front ++ rest) → IsBytes front
bytes_before [] rest bytes = λ i. omega arith
bytes_before (b ∷ front) rest bytes = bytes_ahead b front (bytes 0) (bytes_before front rest (λ i. bytes (suc i)))

pub no_bytes : IsBytes []
no_bytes i = omega arith

record AreBytes (octets : List ℕ) : Type 0 where
  alone : IsBytes (meant_after false octets)
  pending : IsBytes (meant_after true octets)

are_bytes : (octets : List ℕ) → IsBytes octets → AreBytes octets
are_bytes [] bytes = record { alone = no_bytes; pending = bytes_ahead 92 [] (omega arith) no_bytes }
are_bytes (b ∷ octets) bytes =
    let rest = are_bytes octets (λ i. bytes (suc i)) in
    record { alone = by_backslash b octets (bytes 0) rest (b == 92); pending = by_class b octets (bytes 0) rest (is_special b) }
  where
    by_backslash : (b : ℕ) (octets : List ℕ) → b < 256 → AreBytes octets → (t : Bool) → IsBytes (cond t (meant_after true octets) (b ∷ meant_after false octets))
    by_backslash b octets small rest true = rest.pending
    by_backslash b octets small rest false = bytes_ahead b (meant_after false octets) small rest.alone

    by_class : (b : ℕ) (octets : List ℕ) → b < 256 → AreBytes octets → (t : Bool) → IsBytes (cond t (b ∷ meant_after false octets) (92 ∷ b ∷ meant_after false octets))
    by_class b octets small rest true = bytes_ahead b (meant_after false octets) small rest.alone
    by_class b octets small rest false = bytes_ahead 92 (b ∷ meant_after false octets) (omega arith) (bytes_ahead b (meant_after false octets) small rest.alone)

pub bytes_meant : (raw : List ℕ) → IsBytes raw → IsBytes (meant raw)
bytes_meant raw bytes = (are_bytes raw bytes).alone

-- ---- base64

pub length-padded : (octets : List ℕ) → length (base64 octets) ≡ (4 * length octets + 2) / 3 + padding_len (length octets)
unfolding base64
length-padded octets =
    omega (arith, length-append (encode_symbols (engine_symbols standard) octets) (replicate (padding_len (length octets)) 61), length-encode_symbols (engine_symbols standard) octets, length-replicate {A = ℕ} (padding_len (length octets)) 61)

length-base64 : (octets : List ℕ) → length octets ≤ length (base64 octets)
unfolding base64
length-base64 octets = omega (arith, length-append (encode_symbols (engine_symbols standard) octets) (replicate (padding_len (length octets)) 61), length-encode_symbols (engine_symbols standard) octets)

pub length-octets_in : (text : List ℕ) → IsBytes text → length (or_none (octets_in text)) ≤ length text
length-octets_in text bytes = by_octets text bytes (octets_in text) refl
  where
    by_octets : (text : List ℕ) → IsBytes text → (o : Option (List ℕ)) → octets_in text ≡ o → length (or_none o) ≤ length text
    by_octets text bytes None is = omega arith
    by_octets text bytes (Some octets) is = omega (arith, ap (λ (x : List ℕ). length x) (is_base64 text octets bytes is).spelled, length-base64 octets)
