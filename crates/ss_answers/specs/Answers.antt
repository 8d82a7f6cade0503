-- Files that hold the answers of a signature checker: what a line says, how it is spelt, which lines a text
-- has, and what lines say together.
use Rattle.std.specs.Prelude.{◌≡◌, ℕ, ◌<◌, Bool, false, ◌&&◌, List, ◌∷◌, ◌++◌, length, codes, Option, Some, None}
use Rattle.std.specs.Prelude.{[], if◌then◌else◌, option_and_then}
use Rattle.std.specs.List.{IsDistinct, cons_option, find, list_any}
use Rattle.std.specs.List.Sorted.{IsStrictlySortedBy}
use Rattle.std.specs.Cmp.Lexicographic.{slice_cmp}
use Rattle.std.specs.Ordering.{nat_cmp}
use Rattle.std.specs.Str.{bytes_eq}
use Rattle.base64.specs.GeneralPurpose.{IsBytes}
use Rattle.ss_octets.specs.Ascii.{sp}
use Rattle.ss_octets.specs.StrictBase64.{base64}
use Rattle.ss_answers.specs.Lines.{AreLines, IsFirstBad, SpellsNone}

-- what a line says: a payload is trusted; under a payload, octets have this valid signature; octets are to be
-- given this signature
pub data Answer : Type 0 where
  Trust : List ℕ → Answer
  Yes : List ℕ → List ℕ → List ℕ → Answer
  Seal : List ℕ → List ℕ → Answer

-- the one spelling of a line, without its line feed
abbrev pub line_text : Answer → List ℕ
line_text (Trust payload) = codes "trust " ++ base64 payload
line_text (Yes payload octets signature) =
    codes "yes " ++ (base64 payload ++ sp ∷ (base64 octets ++ sp ∷ base64 signature))
line_text (Seal octets signature) = codes "seal " ++ (base64 octets ++ sp ∷ base64 signature)

-- what a field may hold: at least one octet
pub record IsField (octets : List ℕ) : Type 0 where
  pub bytes : IsBytes octets
  pub some : 0 < length octets

abbrev pub HasFields : Answer → Type 0
HasFields (Trust payload) = IsField payload
HasFields (Yes payload octets signature) = IsField payload × IsField octets × IsField signature
HasFields (Seal octets signature) = IsField octets × IsField signature

-- a text has these lines; its first line that is none has this number
abbrev pub HasLines : List ℕ → List Answer → Type 0
HasLines text lines = AreLines HasFields line_text text lines

abbrev pub HasFirstBadLine : List ℕ → ℕ → Type 0
HasFirstBadLine text number = IsFirstBad HasFields line_text text number

-- a text is the spelling of no line
abbrev pub IsNoLine : List ℕ → Type 0
IsNoLine text = SpellsNone HasFields line_text text

-- a text is no field; two fields with a space between them, and no such two; three, and no such three
abbrev pub IsNoField : List ℕ → Type 0
IsNoField text = (octets : List ℕ) → IsField octets → text ≡ base64 octets → ⊥

abbrev pub IsPair : List ℕ → List ℕ → List ℕ → Type 0
IsPair text first second = IsField first × IsField second × (text ≡ base64 first ++ sp ∷ base64 second)

abbrev pub IsNoPair : List ℕ → Type 0
IsNoPair text = (first second : List ℕ) → IsPair text first second → ⊥

abbrev pub IsTriple : List ℕ → List ℕ → List ℕ → List ℕ → Type 0
IsTriple text first second third = IsField first × IsField second × IsField third
    × (text ≡ base64 first ++ sp ∷ (base64 second ++ sp ∷ base64 third))

abbrev pub IsNoTriple : List ℕ → Type 0
IsNoTriple text = (first second third : List ℕ) → IsTriple text first second third → ⊥

-- ---- laws

-- no text has lines and a first bad line
abbrev pub NoTextIsGoodAndBad : Type 0
NoTextIsGoodAndBad = (text : List ℕ) (lines : List Answer) (number : ℕ) → HasLines text lines
    → HasFirstBadLine text number → ⊥

-- a text has its lines in one way
abbrev pub LinesAreDetermined : Type 0
LinesAreDetermined = (text : List ℕ) (lines others : List Answer) → HasLines text lines → HasLines text others
    → lines ≡ others

-- a text has one first bad line
abbrev pub BadLineIsDetermined : Type 0
BadLineIsDetermined = (text : List ℕ) (m n : ℕ) → HasFirstBadLine text m → HasFirstBadLine text n → m ≡ n

-- ---- what lines say

-- the line says that this payload is trusted
abbrev pub is_trust : List ℕ → Answer → Bool
is_trust payload (Trust p) = bytes_eq p payload
is_trust payload (Yes p o s) = false
is_trust payload (Seal o s) = false

-- the line says that under this payload these octets have this signature
abbrev pub is_yes : List ℕ → List ℕ → List ℕ → Answer → Bool
is_yes payload octets signature (Trust p) = false
is_yes payload octets signature (Yes p o s) = bytes_eq p payload && (bytes_eq o octets && bytes_eq s signature)
is_yes payload octets signature (Seal o s) = false

-- the line gives these octets a signature
abbrev pub is_seal : List ℕ → Answer → Bool
is_seal octets (Trust p) = false
is_seal octets (Yes p o s) = false
is_seal octets (Seal o s) = bytes_eq o octets

-- the signature that a line gives
abbrev pub given_signature : Answer → Option (List ℕ)
given_signature (Trust p) = None
given_signature (Yes p o s) = None
given_signature (Seal o s) = Some s

-- some line trusts the payload
abbrev pub trusted : List Answer → List ℕ → Bool
trusted lines payload = list_any (is_trust payload) lines

-- some line says yes to the three
abbrev pub valid : List Answer → List ℕ → List ℕ → List ℕ → Bool
valid lines payload octets signature = list_any (is_yes payload octets signature) lines

-- the signature of the first line that gives the octets one
abbrev pub seal_of : List Answer → List ℕ → Option (List ℕ)
seal_of lines octets = option_and_then given_signature (find (is_seal octets) lines)

-- the answers are those of the lines
pub record SaysTheSame (lines answers : List Answer) : Type 0 where
  pub trusted : (payload : List ℕ) → trusted answers payload ≡ trusted lines payload
  pub valid : (payload octets signature : List ℕ)
      → valid answers payload octets signature ≡ valid lines payload octets signature
  pub seal : (octets : List ℕ) → seal_of answers octets ≡ seal_of lines octets

-- ---- the payloads that lines trust

-- the payload that a line trusts
abbrev pub trusted_payload : Answer → Option (List ℕ)
trusted_payload (Trust p) = Some p
trusted_payload (Yes p o s) = None
trusted_payload (Seal o s) = None

-- the same, unless one of these lines trusts it too
abbrev pub last_trust : Answer → List Answer → Option (List ℕ)
last_trust (Trust p) lines = if trusted lines p then None else Some p
last_trust (Yes p o s) lines = None
last_trust (Seal o s) lines = None

-- the payloads that lines trust, each once, in the order of the last lines that trust them
abbrev pub payloads_of : List Answer → List (List ℕ)
payloads_of [] = []
payloads_of (line ∷ lines) = cons_option (last_trust line lines) (payloads_of lines)

-- each payload is before those after it, in the order of their octets
abbrev pub Rise : List (List ℕ) → Type 0
Rise payloads = IsStrictlySortedBy (slice_cmp nat_cmp) payloads

-- a payload is among them exactly if some line trusts it, and no two of them are equal
pub record AreThoseTrusted (lines : List Answer) (payloads : List (List ℕ)) : Type 0 where
  pub among : (payload : List ℕ) → list_any (λ p. bytes_eq p payload) payloads ≡ trusted lines payload
  pub once : IsDistinct bytes_eq payloads

abbrev pub PayloadsAreThoseTrusted : Type 0
PayloadsAreThoseTrusted = (lines : List Answer) → AreThoseTrusted lines (payloads_of lines)
