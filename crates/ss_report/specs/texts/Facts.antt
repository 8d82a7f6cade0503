-- What an inspection adds to the line of a message, where facts are asked for: how long the message is, its TIMESTAMP, and
-- whether `[ssign` stands in it; at the named places also the octets of the message, and those of its block or wrap.
use Rattle.std.specs.Prelude.{ℕ, ◌+◌, Bool, true, false, not, ◌==◌, ◌||◌, if◌then◌else◌, List, [], ◌∷◌, ◌++◌, codes}
use Rattle.std.specs.Prelude.{take, drop, length, Option, Some, None, option_map}
use Rattle.std.specs.List.{list_any, prefix_len}
use Rattle.std.specs.Str.{bytes_eq}
use Rattle.ss_octets.specs.StrictBase64.{base64}
use Rattle.ss_message.specs.Octets.{is_no_space}
use Rattle.ss_message.specs.declared.fault.Part.{Part}
use Rattle.ss_message.specs.declared.fault.Part.TheVariants as parts
use Rattle.ss_block.specs.declared.reading.Reading.{Reading}
use Rattle.ss_block.specs.declared.reading.Reading.TheVariants as readings
use Rattle.ss_block.specs.Reading.{reading}
use Rattle.ss_block.specs.Signed.{signed}
use Rattle.ss_block.specs.Versions.{version_text}
use Rattle.ss_wrap.specs.Wrap.{original}
use Rattle.ss_report.specs.records.Record.{Value, Number, Word, Text, field}

-- ---- named places

abbrev pub is_named : List ℕ → (place : ℕ) → Bool
is_named places place = list_any (λ p. p == place) places

-- whether a place is named, where facts are asked for
abbrev pub names_of : Option (List ℕ) → Option (ℕ → Bool)
names_of facts = option_map is_named facts

-- ---- of each message

-- up to the first SP, and after it
abbrev pub to_space : List ℕ → List ℕ
to_space t = take (prefix_len is_no_space t) t

abbrev pub past_space : List ℕ → List ℕ
past_space t = drop (prefix_len is_no_space t + 1) t

-- TIMESTAMP as it stands: SP ends VERSION before it, and SP ends it (RFC 5424, section 6)
abbrev pub timestamp_of : List ℕ → List ℕ
timestamp_of t = to_space (past_space t)

-- PRI, VERSION and TIMESTAMP
abbrev pub is_early : Part → Bool
is_early parts.Pri = true
is_early parts.Version = true
is_early parts.Timestamp = true
is_early parts.Hostname = false
is_early parts.AppName = false
is_early parts.ProcId = false
is_early parts.MsgId = false
is_early parts.Syntax = false
is_early parts.Name = false
is_early parts.Value = false
is_early parts.RepeatedId = false
is_early parts.Msg = false

-- none of these three fails
abbrev pub has_timestamp : Reading → Bool
has_timestamp readings.Plain = true
has_timestamp (readings.Unparsed part pos) = not (is_early part)
has_timestamp (readings.Signature b) = true
has_timestamp (readings.Certificate b) = true
has_timestamp (readings.Spoilt cause) = true

abbrev pub timestamp_fields : Reading → List ℕ → List (List ℕ × Value)
timestamp_fields r t = if has_timestamp r then field (codes "timestamp") (Text (timestamp_of t)) else []

-- `[ssign` stands somewhere in a text
abbrev pub holds_mark : List ℕ → Bool
holds_mark [] = false
holds_mark (octet ∷ octets) = bytes_eq (take 6 (octet ∷ octets)) (codes "[ssign") || holds_mark octets

abbrev pub mark_fields : List ℕ → List (List ℕ × Value)
mark_fields t = if holds_mark t then field (codes "marked") (Number 1) else []

-- ---- of a message at a named place

-- the most octets that `text` and `original` have
abbrev pub longest_text : ℕ
longest_text = 16384

-- octets in base64
abbrev pub encoded : List ℕ → Value
encoded octets = Word (base64 octets)

abbrev pub original_fields : Option (List ℕ) → List (List ℕ × Value)
original_fields None = []
original_fields (Some octets) = field (codes "original") (encoded (take longest_text octets))

-- FRAG of a certificate block
abbrev pub fragment_fields : Reading → List (List ℕ × Value)
fragment_fields readings.Plain = []
fragment_fields (readings.Unparsed part pos) = []
fragment_fields (readings.Signature b) = []
fragment_fields (readings.Certificate b) = field (codes "fragment") (encoded b.fragment)
fragment_fields (readings.Spoilt cause) = []

-- VER of a block (RFC 5848, section 4.2.1)
abbrev pub version_fields : Reading → List (List ℕ × Value)
version_fields readings.Plain = []
version_fields (readings.Unparsed part pos) = []
version_fields (readings.Signature b) = field (codes "ver") (Word (version_text b.alg))
version_fields (readings.Certificate b) = field (codes "ver") (Word (version_text b.alg))
version_fields (readings.Spoilt cause) = []

-- what is signed of a block
abbrev pub signed_fields : Option (List ℕ) → List (List ℕ × Value)
signed_fields None = []
signed_fields (Some octets) = field (codes "signed") (encoded octets)

-- SIGN of a block
abbrev pub signature_fields : Reading → List (List ℕ × Value)
signature_fields readings.Plain = []
signature_fields (readings.Unparsed part pos) = []
signature_fields (readings.Signature b) = field (codes "signature") (encoded b.signature)
signature_fields (readings.Certificate b) = field (codes "signature") (encoded b.signature)
signature_fields (readings.Spoilt cause) = []

abbrev pub block_fields : Reading → Option (List ℕ) → List (List ℕ × Value)
block_fields r octets = fragment_fields r ++ version_fields r ++ signed_fields octets ++ signature_fields r

abbrev pub text_fields : List ℕ → List (List ℕ × Value)
text_fields t =
    field (codes "text") (encoded (take longest_text t)) ++ original_fields (original t)
    ++ block_fields (reading t) (signed t)

-- none where its place isn't named
abbrev pub text_fields_if : (named : Bool) → List ℕ → List (List ℕ × Value)
text_fields_if named t = if named then text_fields t else []

-- ---- all of them

abbrev pub fact_fields : (named : Bool) → List ℕ → List (List ℕ × Value)
fact_fields named t =
    field (codes "octets") (Number (length t)) ++ timestamp_fields (reading t) t ++ mark_fields t
    ++ text_fields_if named t
