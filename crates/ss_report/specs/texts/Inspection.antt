-- What each message of a log is, one line a message, each ended by LF: words with one SP between two, or a JSON object
-- (RFC 8259). The findings alone leave out the plain messages. Where wraps are taken off, the line of a wrap says what
-- the octets in it are. Where facts are asked for, each line has them too.
use Rattle.std.specs.Prelude.{ℕ, ◌+◌, Bool, true, false, ◌&&◌, if◌then◌else◌, List, [], ◌∷◌, ◌++◌, codes}
use Rattle.std.specs.Prelude.{length, Option, Some, None}
use Rattle.ss_message.specs.declared.fault.Part.{Part}
use Rattle.ss_message.specs.declared.fault.Part.TheVariants as parts
use Rattle.ss_block.specs.declared.block.Group.{Group}
use Rattle.ss_block.specs.declared.session.Session.{Session}
use Rattle.ss_block.specs.declared.reading.Reading.{Reading}
use Rattle.ss_block.specs.declared.reading.Reading.TheVariants as readings
use Rattle.ss_block.specs.Reading.{reading}
use Rattle.ss_block.specs.Session.{session}
use Rattle.ss_wrap.specs.Wrap.{original}
use Rattle.ss_report.specs.records.Record.{Value, Number, Word, Record, field}
use Rattle.ss_report.specs.records.Fields.{known_session_fields, group_fields, cause_word}
use Rattle.ss_report.specs.records.Written.{written}
use Rattle.ss_report.specs.forms.Forms.{notation_of, has_findings_alone}
use Rattle.ss_report.specs.texts.Ending.{end_lines}
use Rattle.ss_report.specs.texts.Facts.{fact_fields}
use Rattle.ss_report.specs.declared.log.ending.Ending.{Ending}
use Rattle.ss_report.specs.declared.notation.Notation.{Notation}
use Rattle.ss_report.specs.declared.forms.inspection_form.InspectionForm.{InspectionForm}
use Rattle.ss_report.specs.declared.forms.report_form.ReportForm.{ReportForm}

-- the word of the part at fault, M1 to M12
abbrev pub part_word : Part → List ℕ
part_word parts.Pri = codes "M1"
part_word parts.Version = codes "M2"
part_word parts.Timestamp = codes "M3"
part_word parts.Hostname = codes "M4"
part_word parts.AppName = codes "M5"
part_word parts.ProcId = codes "M6"
part_word parts.MsgId = codes "M7"
part_word parts.Syntax = codes "M8"
part_word parts.Name = codes "M9"
part_word parts.Value = codes "M10"
part_word parts.RepeatedId = codes "M11"
part_word parts.Msg = codes "M12"

-- the head of a block of either kind: its place, its session, where one is known, and its group
abbrev pub head_fields : (place : ℕ) → Option Session → Group → List (List ℕ × Value)
head_fields place s g = field (codes "place") (Number place) ++ known_session_fields s ++ group_fields g

-- ---- a line for a message

abbrev pub reading_kind : Reading → List ℕ
reading_kind readings.Plain = codes "plain"
reading_kind (readings.Unparsed part pos) = codes "unparsed"
reading_kind (readings.Signature b) = codes "signature"
reading_kind (readings.Certificate b) = codes "certificate"
reading_kind (readings.Spoilt cause) = codes "spoilt"

abbrev pub reading_fields : Reading → Option Session → (place : ℕ) → List (List ℕ × Value)
reading_fields readings.Plain s place = field (codes "place") (Number place)
reading_fields (readings.Unparsed part pos) s place =
    field (codes "place") (Number place) ++ field (codes "part") (Word (part_word part))
    ++ field (codes "offset") (Number pos)
reading_fields (readings.Signature b) s place =
    head_fields place s b.group ++ field (codes "gbc") (Number b.gbc) ++ field (codes "first") (Number b.first)
    ++ field (codes "count") (Number (length b.hashes))
reading_fields (readings.Certificate b) s place =
    head_fields place s b.group ++ field (codes "total") (Number b.total) ++ field (codes "index") (Number b.index)
    ++ field (codes "length") (Number (length b.fragment))
reading_fields (readings.Spoilt cause) s place =
    field (codes "place") (Number place) ++ field (codes "cause") (Word (cause_word cause))

abbrev pub reading_record : Reading → Option Session → (place : ℕ) → Record
reading_record r s place = record { kind = reading_kind r; fields = reading_fields r s place }

abbrev pub reading_line : Notation → Reading → Option Session → ℕ → List ℕ
reading_line notation r s place = written notation (reading_record r s place)

abbrev pub is_plain : Reading → Bool
is_plain readings.Plain = true
is_plain r = false

-- the line of a message as it stands
unfoldable pub stored_line : ReportForm → ℕ → List ℕ → List ℕ
stored_line form place message =
    if has_findings_alone form && is_plain (reading message) then []
    else reading_line (notation_of form) (reading message) (session message) place

-- ---- a line for a wrap

-- what the octets in it are
abbrev pub wrapped_kind : Reading → List ℕ
wrapped_kind readings.Plain = codes "wrapped-plain"
wrapped_kind (readings.Unparsed part pos) = codes "wrapped-unparsed"
wrapped_kind (readings.Signature b) = codes "wrapped-signature"
wrapped_kind (readings.Certificate b) = codes "wrapped-certificate"
wrapped_kind (readings.Spoilt cause) = codes "wrapped-spoilt"

-- the fields that they have where they stand as a message of the log
abbrev pub wrapped_record : Reading → Option Session → (place : ℕ) → Record
wrapped_record r s place = record { kind = wrapped_kind r; fields = reading_fields r s place }

-- the line of the wrap of these octets
unfoldable pub wrapped_line : Notation → ℕ → List ℕ → List ℕ
wrapped_line notation place octets = written notation (wrapped_record (reading octets) (session octets) place)

-- ---- a line for either

-- the octets in a wrap, where wraps are taken off
abbrev pub inside : (unwrap : Bool) → List ℕ → Option (List ℕ)
inside unwrap message = if unwrap then original message else None

abbrev pub line_of : ReportForm → ℕ → List ℕ → Option (List ℕ) → List ℕ
line_of form place message (Some octets) = wrapped_line (notation_of form) place octets
line_of form place message None = stored_line form place message

abbrev pub message_line : InspectionForm → ℕ → List ℕ → List ℕ
message_line form place message = line_of form.lines place message (inside form.unwrap message)

-- ---- a line with facts

-- the line of a wrap of these octets, and of the message as it stands
abbrev pub wrapped_facts : Notation → ℕ → List ℕ → (named : Bool) → (octets : List ℕ) → List ℕ
wrapped_facts notation place message named octets = written notation (record {
  kind = wrapped_kind (reading octets);
  fields = reading_fields (reading octets) (session octets) place ++ fact_fields named message;
})

abbrev pub stored_facts : Notation → ℕ → List ℕ → (named : Bool) → List ℕ
stored_facts notation place message named = written notation (record {
  kind = reading_kind (reading message);
  fields = reading_fields (reading message) (session message) place ++ fact_fields named message;
})

abbrev pub facts_of : ReportForm → ℕ → List ℕ → (named : Bool) → Option (List ℕ) → List ℕ
facts_of form place message named (Some octets) = wrapped_facts (notation_of form) place message named octets
facts_of form place message named None =
    if has_findings_alone form && is_plain (reading message) then []
    else stored_facts (notation_of form) place message named

abbrev pub facts_line : InspectionForm → ℕ → List ℕ → (named : Bool) → List ℕ
facts_line form place message named = facts_of form.lines place message named (inside form.unwrap message)

-- ---- all lines

-- by whether a place is named, where facts are asked for
abbrev pub line_by : InspectionForm → Option (ℕ → Bool) → ℕ → List ℕ → List ℕ
line_by form None place message = message_line form place message
line_by form (Some names) place message = facts_line form place message (names place)

-- the lines of messages of which the first has this place
abbrev pub message_lines : InspectionForm → Option (ℕ → Bool) → ℕ → List (List ℕ) → List ℕ
message_lines form names place [] = []
message_lines form names place (m ∷ ms) = line_by form names place m ++ message_lines form names (place + 1) ms

-- the whole text
unfoldable pub inspection : InspectionForm → Option (ℕ → Bool) → List (List ℕ) → Ending → List ℕ
inspection form names messages ending =
    message_lines form names 0 messages ++ end_lines (notation_of form.lines) ending (length messages)
