-- What is printed about a code, and which code is asked about.
use Rattle.std.specs.Prelude.{ℕ, Bool, true, false, ◌==◌, ◌&&◌, ◌||◌, not, if◌then◌else◌, List, [], ◌∷◌, ◌++◌, Option, Some, None}
use Rattle.std.specs.Prelude.{codes, flat_map, option_map}
use Rattle.std.specs.List.{find, list_any, slice_split}
use Rattle.std.specs.Option.{option_or}
use Rattle.std.specs.Str.{bytes_eq, str_eq_ignore_ascii_case}
use Rattle.ss_report.specs.records.Record.{Text}
use Rattle.ss_report.specs.records.Json.{json_end, json_field, json_head}
use Rattle.ssign.specs.declared.explanations.Explanation.{Explanation}
use Rattle.ssign.specs.declared.explanations.Tables.{Tables}

-- the entry is that of the code, in letters of either case
abbrev pub has_code : List ℕ → Explanation → Bool
has_code code entry = str_eq_ignore_ascii_case entry.code.now code

-- the entries of tables, in the order in which a code is looked for
abbrev pub entries_of : Tables → List Explanation
entries_of t = t.refusals.now ++ t.lines.now ++ t.words.now ++ t.faults.now ++ t.unprinted.now

-- what is printed of an entry: its text and a line feed
abbrev pub told_text : Explanation → List ℕ
told_text entry = entry.text.now ++ 10 ∷ []

-- ---- objects

-- an entry of the table with this name, as a JSON object on a line of its own
abbrev pub object_in : (table : List ℕ) → Explanation → List ℕ
object_in table entry =
    json_head (codes "explanation") ++ json_field (codes "table", Text table)
    ++ json_field (codes "code", Text entry.code.now) ++ json_field (codes "text", Text entry.text.now) ++ json_end

-- all of its entries
abbrev pub objects_in : (table : List ℕ) → List Explanation → List ℕ
objects_in table entries = flat_map (object_in table) entries

-- all entries of all tables, in the order in which a code is looked for
abbrev pub objects_of : Tables → List ℕ
objects_of t =
    objects_in (codes "refusals") t.refusals.now ++ objects_in (codes "words") t.lines.now
    ++ objects_in (codes "words") t.words.now ++ objects_in (codes "faults") t.faults.now
    ++ objects_in (codes "unprinted") t.unprinted.now

-- the name of the first table that has an entry of the code
abbrev pub table_of : Tables → List ℕ → List ℕ
table_of t code =
    if list_any (has_code code) t.refusals.now then codes "refusals"
    else if list_any (has_code code) t.lines.now || list_any (has_code code) t.words.now then codes "words"
    else if list_any (has_code code) t.faults.now then codes "faults"
    else codes "unprinted"

-- ---- what is written

-- about an entry, which has the code: with `--json` its object, and else its text
abbrev pub told : Tables → (json : Bool) → (code : List ℕ) → Explanation → List ℕ
told t true code entry = object_in (table_of t code) entry
told t false code entry = told_text entry

-- about this code, if an entry has it; without a code about all of them, which `--json` alone asks for
abbrev pub explained : Tables → (json : Bool) → (code : Option (List ℕ)) → Option (List ℕ)
explained t json (Some code) = option_map (told t json code) (find (has_code code) (entries_of t))
explained t true None = Some (objects_of t)
explained t false None = None

-- ---- the code that is asked about

-- a word that isn't empty, and isn't the `ssign:` that stands before each refusal
abbrev pub is_asked : List ℕ → Bool
is_asked word = not (bytes_eq word []) && not (bytes_eq word (codes "ssign:"))

-- the first such word between the spaces of a text
abbrev pub asked_word : List ℕ → Option (List ℕ)
asked_word text = find is_asked (slice_split (λ octet. octet == 32) text)

-- the first such word of several texts
abbrev pub asked_of : List (List ℕ) → Option (List ℕ)
asked_of [] = None
asked_of (text ∷ texts) = option_or (asked_word text) (asked_of texts)
