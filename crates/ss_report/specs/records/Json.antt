-- A record as a JSON object (RFC 8259), ended by LF: its kind under the key `line`, and then its fields, with no space
-- after a colon or a comma.
use Rattle.std.specs.Prelude.{ℕ, Bool, List, [], ◌∷◌, ◌++◌, ◌==◌, ◌||◌, if◌then◌else◌, codes, decimal, flat_map}
use Rattle.ss_report.specs.records.Record.{Value, Number, Word, Text}

-- `"` and `\`
abbrev pub is_escaped : ℕ → Bool
is_escaped octet = octet == 34 || octet == 92

-- an octet of a text: these two stand after a `\` (RFC 8259, section 7)
abbrev pub escaped : ℕ → List ℕ
escaped octet = if is_escaped octet then 92 ∷ octet ∷ [] else octet ∷ []

abbrev pub json_value : Value → List ℕ
json_value (Number n) = decimal n
json_value (Word word) = codes "\"" ++ word ++ codes "\""
json_value (Text text) = codes "\"" ++ flat_map escaped text ++ codes "\""

-- {"line":"KIND"
abbrev pub json_head : (kind : List ℕ) → List ℕ
json_head kind = codes "{\"line\":\"" ++ kind ++ codes "\""

-- ,"KEY":VALUE
abbrev pub json_field : List ℕ × Value → List ℕ
json_field f = codes ",\"" ++ f.0 ++ codes "\":" ++ json_value f.1

abbrev pub json_end : List ℕ
json_end = codes "}\n"
