-- The text of the questions to a signature scheme: a line for each, a record whose fields are octets in strict base64.
-- A plain line to which the scheme says yes is one of an answers file without the question mark. A JSON object (RFC 8259) has these fields,
-- and then those of what the question is about.
use Rattle.std.specs.Prelude.{ℕ, List, ◌++◌, codes, flat_map}
use Rattle.ss_octets.specs.StrictBase64.{base64}
use Rattle.ss_review.specs.declared.questions.asked.AskedSession.{AskedSession}
use Rattle.ss_review.specs.declared.questions.question.Question.{Question}
use Rattle.ss_review.specs.declared.questions.question.Question.TheVariants as question
use Rattle.ss_report.specs.records.Record.{Value, Word, Record, field}
use Rattle.ss_report.specs.records.Fields.{session_fields}
use Rattle.ss_report.specs.records.Written.{about_in, written}
use Rattle.ss_report.specs.texts.Asked.{AskTrust, AskYes, Asking, askings, block_fields, question_of}
use Rattle.ss_report.specs.declared.notation.Notation.{Notation}
use Rattle.ss_report.specs.declared.notation.Notation.TheVariants.{Plain}

-- trust? PAYLOAD, or yes? PAYLOAD OCTETS SIGNATURE: no line of an answers file begins so
abbrev pub question_kind : Question → List ℕ
question_kind (question.Trust payload) = codes "trust?"
question_kind (question.Yes payload octets signature) = codes "yes?"

abbrev pub question_fields : Question → List (List ℕ × Value)
question_fields (question.Trust payload) = field (codes "payload") (Word (base64 payload))
question_fields (question.Yes payload octets signature) =
    field (codes "payload") (Word (base64 payload)) ++ field (codes "octets") (Word (base64 octets))
    ++ field (codes "signature") (Word (base64 signature))

abbrev pub question_record : Question → Record
question_record q = record { kind = question_kind q; fields = question_fields q }

abbrev pub question_text : Question → List ℕ
question_text q = written Plain (question_record q)

-- the whole text
unfoldable pub question_lines : List Question → List ℕ
question_lines questions = flat_map question_text questions

-- what a question is about
abbrev pub about_fields : Asking → List (List ℕ × Value)
about_fields (AskTrust s) = session_fields s.session
about_fields (AskYes s b) = block_fields s.session b

abbrev pub asking_record : Notation → Asking → Record
asking_record notation a = record {
  kind = question_kind (question_of a);
  fields = question_fields (question_of a) ++ about_in notation (about_fields a);
}

abbrev pub asking_text : Notation → Asking → List ℕ
asking_text notation a = written notation (asking_record notation a)

-- the lines of what is asked about sessions
unfoldable pub asking_lines : Notation → List AskedSession → List ℕ
asking_lines notation ss = flat_map (asking_text notation) (askings ss)
