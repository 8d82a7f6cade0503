-- The text of a payload block is ASCII.
use Rattle.std.proofs.Common.{◌≡◌, ℕ, zero, suc, ◌+◌, ◌/◌, ◌%◌, ◌<◌, ◌≤◌, List, [], ◌∷◌, ◌++◌, length, length-append, Option, Some, None, refl, arith}
use Rattle.std.specs.Str.{IsAscii}
use Rattle.std.proofs.lemmas.Str.{IsAscii-append}
use Rattle.base64.specs.Engines.{standard}
use Rattle.base64.proofs.EngineFacts.{IsAscii-encode_of}
use Rattle.ss_message.specs.declared.stamp.Offset.{Offset}
use Rattle.ss_message.specs.declared.stamp.Offset.TheVariants.{Utc, Plus, Minus}
use Rattle.ss_message.specs.Stamp.{Moment, padded, fraction_text, offset_text, stamp_text}
use Rattle.ss_message.specs.Message.{timestamp_text}
use Rattle.ss_payload.specs.declared.kind.Kind.{Kind}
use Rattle.ss_payload.specs.declared.kind.Kind.TheVariants.{C, P, K, N, U}
use Rattle.ss_octets.specs.StrictBase64.{base64}
use Rattle.ss_payload.specs.Payload.{PayloadValue, IsPayload, letter, blob_text, payload_text}
use Rattle.ss_payload.specs.Payload.Spells.{exactly}
use Rattle.ss_payload.specs.PayloadReading.{payload_in}
use Rattle.ss_payload.proofs.Payloads.{payload_again}

nil_ascii : IsAscii []
nil_ascii i = omega arith

cons_ascii : (o : ℕ) (octets : List ℕ) → o < 128 → IsAscii octets → IsAscii (o ∷ octets)
cons_ascii o octets lt a zero = lt
cons_ascii o octets lt a (suc i) = a i

padded_ascii : (width n : ℕ) → IsAscii (padded width n)
padded_ascii zero n = nil_ascii
padded_ascii (suc width) n = IsAscii-append (padded width (n / 10)) ((48 + n % 10) ∷ []) (padded_ascii width (n / 10)) (cons_ascii (48 + n % 10) [] (omega arith) nil_ascii)

fraction_ascii : (digits fraction : ℕ) → IsAscii (fraction_text digits fraction)
fraction_ascii zero fraction = nil_ascii
fraction_ascii (suc more) fraction = cons_ascii 46 (padded (suc more) fraction) (omega arith) (padded_ascii (suc more) fraction)

-- two digits, an octet, and two digits
two_ascii : (a b o : ℕ) → o < 128 → IsAscii (padded 2 a ++ o ∷ padded 2 b)
two_ascii a b o lt = IsAscii-append (padded 2 a) (o ∷ padded 2 b) (padded_ascii 2 a) (cons_ascii o (padded 2 b) lt (padded_ascii 2 b))

offset_ascii : (o : Offset) → IsAscii (offset_text o)
offset_ascii Utc = cons_ascii 90 [] (omega arith) nil_ascii
offset_ascii (Plus hour minute) = cons_ascii 43 (padded 2 hour ++ 58 ∷ padded 2 minute) (omega arith) (two_ascii hour minute 58 (omega arith))
offset_ascii (Minus hour minute) = cons_ascii 45 (padded 2 hour ++ 58 ∷ padded 2 minute) (omega arith) (two_ascii hour minute 58 (omega arith))

-- three numbers of digits with an octet between each two
three_ascii : (w a b d o : ℕ) → o < 128 → IsAscii (padded w a ++ o ∷ padded 2 b ++ o ∷ padded 2 d)
three_ascii w a b d o lt =
    IsAscii-append (padded w a ++ o ∷ padded 2 b) (o ∷ padded 2 d)
    (IsAscii-append (padded w a) (o ∷ padded 2 b) (padded_ascii w a) (cons_ascii o (padded 2 b) lt (padded_ascii 2 b)))
    (cons_ascii o (padded 2 d) lt (padded_ascii 2 d))

stamp_ascii : (m : Moment) → IsAscii (stamp_text m)
unfolding stamp_text
stamp_ascii m =
    let date : List ℕ = padded 4 m.year ++ 45 ∷ padded 2 m.month ++ 45 ∷ padded 2 m.day in
    let time : List ℕ = padded 2 m.hour ++ 58 ∷ padded 2 m.minute ++ 58 ∷ padded 2 m.second in
    let fraction : List ℕ = fraction_text m.digits m.fraction in
    IsAscii-append (date ++ 84 ∷ time ++ fraction) (offset_text m.offset)
    (IsAscii-append (date ++ 84 ∷ time) fraction
    (IsAscii-append date (84 ∷ time) (three_ascii 4 m.year m.month m.day 45 (omega arith)) (cons_ascii 84 time (omega arith) (three_ascii 2 m.hour m.minute m.second 58 (omega arith))))
    (fraction_ascii m.digits m.fraction))
    (offset_ascii m.offset)

timestamp_ascii : (s : Option Moment) → IsAscii (timestamp_text s)
timestamp_ascii None = cons_ascii 45 [] (omega arith) nil_ascii
timestamp_ascii (Some m) = stamp_ascii m

base64_ascii : (octets : List ℕ) → IsAscii (32 ∷ base64 octets)
unfolding base64
base64_ascii octets = cons_ascii 32 (base64 octets) (omega arith) (IsAscii-encode_of standard octets)

kind_ascii : (k : Kind) (blob : List ℕ) → IsAscii (letter k ∷ blob_text k blob)
kind_ascii C blob = cons_ascii 67 (32 ∷ base64 blob) (omega arith) (base64_ascii blob)
kind_ascii P blob = cons_ascii 80 (32 ∷ base64 blob) (omega arith) (base64_ascii blob)
kind_ascii K blob = cons_ascii 75 (32 ∷ base64 blob) (omega arith) (base64_ascii blob)
kind_ascii N blob = cons_ascii 78 [] (omega arith) nil_ascii
kind_ascii U blob = cons_ascii 85 (32 ∷ base64 blob) (omega arith) (base64_ascii blob)

pub texts_are_ascii : (p : PayloadValue) → IsAscii (payload_text p)
unfolding payload_text
texts_are_ascii p =
    let rest : List ℕ = letter p.kind ∷ blob_text p.kind p.blob in
    IsAscii-append (timestamp_text p.stamp) (32 ∷ rest) (timestamp_ascii p.stamp) (cons_ascii 32 rest (omega arith) (kind_ascii p.kind p.blob))

some_stamp : (m : Moment) → 1 ≤ length (stamp_text m)
unfolding stamp_text
some_stamp m = omega (arith, length-append {A = ℕ})

some_timestamp : (s : Option Moment) → 1 ≤ length (timestamp_text s)
some_timestamp None = omega arith
some_timestamp (Some m) = some_stamp m

pub texts_have_octets : (p : PayloadValue) → 3 ≤ length (payload_text p)
unfolding payload_text
texts_have_octets p = omega (arith, length-append (timestamp_text p.stamp) (32 ∷ letter p.kind ∷ blob_text p.kind p.blob), some_timestamp p.stamp)

pub texts_are_read : (p : PayloadValue) → IsPayload p → payload_in (payload_text p) ≡ Some p
texts_are_read p valid = payload_again (payload_text p) p valid (exactly refl)
