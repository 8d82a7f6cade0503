-- A line of an output as a record: its kind, and its fields in their order, each a key and a value.
use Rattle.std.specs.Prelude.{ℕ, List, [], ◌∷◌}
use Rattle.ss_octets.specs.StrictBase64.{base64}
use Rattle.ss_report.specs.declared.records.value.Value as code
use Rattle.ss_report.specs.declared.records.value.Value.TheVariants as values

-- a number, a word in which no octet has to be escaped, or any text
pub data Value : Type 0 where
  Number : ℕ → Value
  Word : List ℕ → Value
  Text : List ℕ → Value

pub record Record : Type 0 where
  pub kind : List ℕ
  pub fields : List (List ℕ × Value)

-- one field
unfoldable pub field : (key : List ℕ) → Value → List (List ℕ × Value)
field key value = (key, value) ∷ []

-- the value that the code hands on, which refers to its octets
abbrev pub valued : code.Value → Value
valued (values.Number n) = Number n
valued (values.Wide n) = Number n
valued (values.Word word) = Word word.now
valued (values.Text text) = Text text.now
valued (values.Base64 octets) = Word (base64 octets.now)
