-- Which sessions are joined under a scheme, and which blocks are verified (RFC 5848, section 7).
use Rattle.std.specs.Prelude.{ℕ, not, Bool, false, List, length, filter, Result, Ok, Err, if◌then◌else◌}
use Rattle.ss_review.specs.declared.report.session_report.SessionState.{SessionState}
use Rattle.ss_review.specs.declared.report.session_report.SessionState.TheVariants as states
use Rattle.ss_review.specs.keep.BlockMessage.{BlockMessage, BlockContent, Hashes, Fragment}
use Rattle.ss_review.specs.sessions.Sessions.{of_session}
use Rattle.ss_review.specs.sessions.Payloads.{certificates, cover, stated_payload}

-- the answers of a scheme: which payloads are trusted, and which signatures of which octets are valid under a payload
pub record Answers : Type 0 where
  pub trusted : List ℕ → Bool
  pub valid : List ℕ → List ℕ → List ℕ → Bool

-- what somebody answers
abbrev pub answers : {J : Type 0} → (J → List ℕ → Bool) → (J → List ℕ → List ℕ → List ℕ → Bool) → J → Answers
answers trusted valid judge = record { trusted = trusted judge; valid = valid judge }

abbrev pub signature_of : BlockContent → List ℕ
signature_of (Hashes b) = b.signature
signature_of (Fragment c) = c.signature

abbrev pub is_valid : Answers → List ℕ → BlockMessage → Bool
is_valid says payload b = says.valid payload b.signed (signature_of b.said)

-- the certificate blocks that are valid under a payload cover all of it
abbrev pub is_accepted : Answers → List BlockMessage → List ℕ → Bool
is_accepted says bs payload = cover (certificates (filter (is_valid says payload) bs)) (length payload)

abbrev pub judged : Answers → List BlockMessage → Result (List ℕ) SessionState → Result (List ℕ) SessionState
judged says bs (Err state) = Err state
judged says bs (Ok payload) =
    if not (says.trusted payload) then Err states.Untrusted
    else (if is_accepted says bs payload then Ok payload else Err states.Unaccepted)

-- the payload of a joined session, whose blocks these are, or else its state
unfoldable pub joined : Answers → List BlockMessage → Result (List ℕ) SessionState
joined says bs = judged says bs (stated_payload (certificates bs))

abbrev pub state_in : Result (List ℕ) SessionState → SessionState
state_in (Ok payload) = states.Joined
state_in (Err state) = state

abbrev pub is_valid_in : Answers → Result (List ℕ) SessionState → BlockMessage → Bool
is_valid_in says (Ok payload) b = is_valid says payload b
is_valid_in says (Err state) b = false

-- the block's session is joined, and the block is valid under its payload
unfoldable pub is_verified : Answers → List BlockMessage → BlockMessage → Bool
is_verified says bs b = is_valid_in says (joined says (of_session bs b.session)) b
