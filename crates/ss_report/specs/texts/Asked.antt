-- What is asked about a log, one question after the other, and what a question is about.
use Rattle.std.specs.Prelude.{ℕ, List, ◌∷◌, ◌++◌, codes, flat_map, map}
use Rattle.ss_block.specs.Versions.{version_text}
use Rattle.ss_block.specs.declared.session.Session.{Session}
use Rattle.ss_review.specs.declared.questions.asked.AskedBlock.{AskedBlock}
use Rattle.ss_review.specs.declared.questions.asked.AskedSession.{AskedSession}
use Rattle.ss_review.specs.declared.questions.parameters.AskedParameters.{AskedParameters}
use Rattle.ss_review.specs.declared.questions.parameters.AskedParameters.TheVariants as parameters
use Rattle.ss_review.specs.declared.questions.question.Question.{Question}
use Rattle.ss_review.specs.declared.questions.question.Question.TheVariants as question
use Rattle.ss_review.specs.questions.Questions.{question_under}
use Rattle.ss_report.specs.records.Record.{Value, Number, Word, field}
use Rattle.ss_report.specs.records.Fields.{session_fields, group_fields}

-- whether the payload of a session is trusted, or whether a block of it is valid under that
pub data Asking : Type 0 where
  AskTrust : AskedSession → Asking
  AskYes : AskedSession → AskedBlock → Asking

-- the question itself
abbrev pub question_of : Asking → Question
question_of (AskTrust s) = question.Trust s.payload
question_of (AskYes s b) = question_under s.payload b

-- the payload that it is about
abbrev pub payload_of : Asking → List ℕ
payload_of (AskTrust s) = s.payload
payload_of (AskYes s b) = s.payload

-- what is asked about a session
abbrev pub session_askings : AskedSession → List Asking
session_askings s = AskTrust s ∷ map (AskYes s) s.blocks

-- what is asked about sessions
unfoldable pub askings : List AskedSession → List Asking
askings ss = flat_map session_askings ss

-- ---- what a question is about, which plain text leaves out

-- ver, sg and spri; then gbc, first and count of a signature block, or total, index and length of a certificate block
-- (RFC 5848, sections 4.2 and 5.3.2)
unfoldable pub parameter_fields : AskedParameters → List (List ℕ × Value)
parameter_fields (parameters.Signature alg group gbc first count) =
    field (codes "ver") (Word (version_text alg)) ++ group_fields group ++ field (codes "gbc") (Number gbc)
    ++ field (codes "first") (Number first) ++ field (codes "count") (Number count)
parameter_fields (parameters.Certificate alg group total index length) =
    field (codes "ver") (Word (version_text alg)) ++ group_fields group ++ field (codes "total") (Number total)
    ++ field (codes "index") (Number index) ++ field (codes "length") (Number length)

-- place, the session, and the parameters of a block
unfoldable pub block_fields : Session → AskedBlock → List (List ℕ × Value)
block_fields s b = field (codes "place") (Number b.place) ++ session_fields s ++ parameter_fields b.parameters
