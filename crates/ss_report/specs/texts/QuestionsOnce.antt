-- The questions to a signature scheme, of which each payload is written once. A line with the payload and its index
-- stands before the first question about it, and each question has the index in place of the payload. A line is a
-- record, and as a JSON object (RFC 8259) it also has what the question is about.
use Rattle.std.specs.Prelude.{ℕ, List, [], ◌∷◌, ◌++◌, codes, flat_map, map, zip, if◌then◌else◌}
use Rattle.ss_octets.specs.StrictBase64.{base64}
use Rattle.ss_block.specs.declared.session.Session.{Session}
use Rattle.ss_review.specs.declared.questions.asked.AskedBlock.{AskedBlock}
use Rattle.ss_review.specs.declared.questions.asked.AskedSession.{AskedSession}
use Rattle.ss_report.specs.records.Record.{Value, Number, Word, field}
use Rattle.ss_report.specs.records.Fields.{session_fields}
use Rattle.ss_report.specs.records.Written.{about_in, written}
use Rattle.ss_report.specs.texts.Asked.{AskTrust, AskYes, Asking, askings, block_fields, payload_of, session_askings}
use Rattle.ss_report.specs.texts.Payloads.{marks}
use Rattle.ss_report.specs.declared.notation.Notation.{Notation}
use Rattle.ss_report.specs.declared.texts.payload_marks.Mark.{Mark}

-- a line: a payload and its index, or what is asked about the payload with this index
pub data OnceLine : Type 0 where
  PayloadLine : (index : ℕ) (payload : List ℕ) → OnceLine
  TrustLine : (index : ℕ) → Session → OnceLine
  YesLine : (index : ℕ) → Session → AskedBlock → OnceLine

-- what is asked, about the payload with this index
abbrev pub line_of : (index : ℕ) → Asking → OnceLine
line_of index (AskTrust s) = TrustLine index s.session
line_of index (AskYes s b) = YesLine index s.session b

-- the line of a payload, where it is new
abbrev pub payload_lines : Mark → List ℕ → List OnceLine
payload_lines m payload = if m.is_new then PayloadLine m.index payload ∷ [] else []

-- the lines of what is asked, by the mark of its payload
abbrev pub marked_lines : Mark × Asking → List OnceLine
marked_lines p = payload_lines p.0 (payload_of p.1) ++ line_of p.0.index p.1 ∷ []

-- the lines of all that is asked
unfoldable pub once_lines : List Asking → List OnceLine
once_lines xs = flat_map marked_lines (zip (marks (map payload_of xs)) xs)

-- ---- how a line is written

-- payload INDEX PAYLOAD, trust? INDEX, or yes? INDEX OCTETS SIGNATURE, with octets in strict base64
abbrev pub once_kind : OnceLine → List ℕ
once_kind (PayloadLine index payload) = codes "payload"
once_kind (TrustLine index s) = codes "trust?"
once_kind (YesLine index s b) = codes "yes?"

abbrev pub once_fields : Notation → OnceLine → List (List ℕ × Value)
once_fields notation (PayloadLine index payload) =
    field (codes "payload_index") (Number index) ++ field (codes "payload") (Word (base64 payload))
once_fields notation (TrustLine index s) =
    field (codes "payload_index") (Number index) ++ about_in notation (session_fields s)
once_fields notation (YesLine index s b) =
    field (codes "payload_index") (Number index) ++ field (codes "octets") (Word (base64 b.octets))
    ++ field (codes "signature") (Word (base64 b.signature)) ++ about_in notation (block_fields s b)

abbrev pub once_line : Notation → OnceLine → List ℕ
once_line notation line = written notation (record { kind = once_kind line; fields = once_fields notation line })

-- the whole text
unfoldable pub once_text_of : Notation → List AskedSession → List ℕ
once_text_of notation ss = flat_map (once_line notation) (once_lines (askings ss))

-- ---- the same session by session

-- the lines of a session, whose payload has this mark
abbrev pub session_once : Mark × AskedSession → List OnceLine
session_once p = payload_lines p.0 p.1.payload ++ map (line_of p.0.index) (session_askings p.1)

abbrev pub session_once_text : Notation → Mark × AskedSession → List ℕ
session_once_text notation p = flat_map (once_line notation) (session_once p)
