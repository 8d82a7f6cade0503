-- How a notation writes a record: what stands before its fields, each field, and what stands after them.
use Rattle.std.specs.Prelude.{ℕ, Bool, true, false, if◌then◌else◌, List, [], ◌++◌, flat_map}
use Rattle.ss_report.specs.declared.notation.Notation.{Notation}
use Rattle.ss_report.specs.declared.notation.Notation.TheVariants as notations
use Rattle.ss_report.specs.records.Record.{Value, Record}
use Rattle.ss_report.specs.records.Plain.{plain_field, plain_end}
use Rattle.ss_report.specs.records.Json.{json_head, json_field, json_end}

abbrev pub head_in : Notation → (kind : List ℕ) → List ℕ
head_in notations.Plain kind = kind
head_in notations.Json kind = json_head kind

abbrev pub field_in : Notation → List ℕ × Value → List ℕ
field_in notations.Plain f = plain_field f
field_in notations.Json f = json_field f

abbrev pub end_in : Notation → List ℕ
end_in notations.Plain = plain_end
end_in notations.Json = json_end

unfoldable pub fields_in : Notation → List (List ℕ × Value) → List ℕ
fields_in notation fields = flat_map (field_in notation) fields

-- the line of a record
unfoldable pub written : Notation → Record → List ℕ
written notation r = head_in notation r.kind ++ fields_in notation r.fields ++ end_in notation

-- ---- questions

-- whether a notation writes what a question is about, after what is asked
abbrev pub says_about : Notation → Bool
says_about notations.Plain = false
says_about notations.Json = true

abbrev pub about_in : Notation → List (List ℕ × Value) → List (List ℕ × Value)
about_in notation fields = if says_about notation then fields else []
