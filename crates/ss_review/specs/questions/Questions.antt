-- What a review asks of a scheme, as often as a block stands in its log.
use Rattle.std.specs.Prelude.{◌≡◌, ℕ, Bool, List, [], ◌∷◌, length, Contains, map, flat_map, Option, Result, Ok, Err}
use Rattle.ss_block.specs.Block as block
use Rattle.ss_block.specs.declared.session.Session.{Session}
use Rattle.ss_review.specs.declared.report.session_report.SessionState.{SessionState}
use Rattle.ss_review.specs.declared.questions.asked.AskedBlock.{AskedBlock}
use Rattle.ss_review.specs.declared.questions.asked.AskedSession.{AskedSession}
use Rattle.ss_review.specs.declared.questions.parameters.AskedParameters.{AskedParameters}
use Rattle.ss_review.specs.declared.questions.parameters.AskedParameters.TheVariants as parameters
use Rattle.ss_review.specs.declared.questions.question.Question.{Question}
use Rattle.ss_review.specs.declared.questions.question.Question.TheVariants as question
use Rattle.ss_review.specs.keep.BlockMessage.{BlockMessage, BlockContent, Hashes, Fragment}
use Rattle.ss_review.specs.declared.sessions.joined_session.JoinedSession.{JoinedSession}
use Rattle.ss_review.specs.sessions.Sessions.{sessions, of_session}
use Rattle.ss_review.specs.sessions.Payloads.{certificate_of, certificates, stated_payload}
use Rattle.ss_review.specs.sessions.Verified.{Answers, signature_of}

-- whether the block is valid under the payload
abbrev pub question_about : List ℕ → BlockMessage → Question
question_about payload b = question.Yes payload b.signed (signature_of b.said)

abbrev pub asked : List BlockMessage → Result (List ℕ) SessionState → List Question
asked bs (Err state) = []
asked bs (Ok payload) = question.Trust payload ∷ map (question_about payload) bs

-- what is asked of a scheme: of each session that states a payload, whether the payload is trusted, and whether each
-- block is valid under it, in order of place
unfoldable pub questions : List BlockMessage → List Question
questions bs = flat_map (λ s. asked (of_session bs s) (stated_payload (certificates (of_session bs s)))) (sessions bs)

-- what a scheme answers to a question
abbrev pub answer : Answers → Question → Bool
answer says (question.Trust payload) = says.trusted payload
answer says (question.Yes payload octets signature) = says.valid payload octets signature

-- ---- what a judge may be asked

-- the judge may be asked each of these
abbrev pub AreAskable : {J : Type 0} → (J → Question → Type 0) → J → List Question → Type 0
AreAskable askable judge qs = (q : Question) → Contains qs q → askable judge q

-- if the block's session is one of these, and joined, the judge may be asked whether the block is valid under its
-- payload
abbrev pub IsAskableIn : {J : Type 0} → (J → Question → Type 0) → J → List JoinedSession → BlockMessage → Type 0
IsAskableIn askable judge ss b =
    (s : JoinedSession) (payload : List ℕ) → Contains ss s → s.session ≡ b.session → s.joined ≡ Ok payload
    → askable judge (question_about payload b)

-- ---- the same session by session, with each payload once, and with what each block says about itself

-- what a block says about itself, which announces this many hashes (RFC 5848, sections 4.2 and 5.3.2)
abbrev pub parameters_of : (count : ℕ) → BlockContent → AskedParameters
parameters_of count (Hashes b) = parameters.Signature b.alg b.group b.gbc b.first count
parameters_of count (Fragment c) = parameters.Certificate c.alg c.group c.total c.index (length c.fragment)

abbrev pub asked_block : BlockMessage → AskedBlock
asked_block b = record {
  place = b.place;
  parameters = parameters_of b.count b.said;
  octets = b.signed;
  signature = signature_of b.said;
}

-- a session that states a payload, with what is asked about its blocks, which are these
abbrev pub asked_session : Session → List BlockMessage → Result (List ℕ) SessionState → List AskedSession
asked_session s bs (Err state) = []
asked_session s bs (Ok payload) = record { session = s; payload = payload; blocks = map asked_block bs } ∷ []

-- each session that states a payload, in their order, with each of its blocks, in order of place
unfoldable pub asked_sessions : List BlockMessage → List AskedSession
asked_sessions bs =
    flat_map (λ s. asked_session s (of_session bs s) (stated_payload (certificates (of_session bs s)))) (sessions bs)

-- all that the questions need of a block
pub record Needed : Type 0 where
  pub session : Session
  pub certificate : Option block.Certificate
  pub asked : AskedBlock

abbrev pub needed : BlockMessage → Needed
needed b = record { session = b.session; certificate = certificate_of b.said; asked = asked_block b }

-- whether the block is valid under the payload of its session
abbrev pub question_under : List ℕ → AskedBlock → Question
question_under payload b = question.Yes payload b.octets b.signature

-- whether the payload is trusted, and whether each block is valid under it
abbrev pub session_questions : AskedSession → List Question
session_questions s = question.Trust s.payload ∷ map (question_under s.payload) s.blocks

-- the questions about sessions, each of which shares its payload among the questions about its blocks
unfoldable pub questions_shared : List AskedSession → List Question
questions_shared ss = flat_map session_questions ss
