-- Announced numbers and sessions, as a review keeps them on its way to a report.
use Rattle.std.specs.Prelude.{ℕ, List, [], ◌∷◌, map, Option, Some, None, Result}
use Rattle.ss_block.specs.declared.hash.Hash.{Hash}
use Rattle.ss_block.specs.declared.session.Session.{Session}
use Rattle.ss_review.specs.declared.report.session_report.SessionState.{SessionState}
use Rattle.ss_review.specs.keep.BlockMessage.{BlockMessage}
use Rattle.ss_review.specs.declared.announced.message_number.MessageNumber.{MessageNumber}
use Rattle.ss_review.specs.declared.sessions.joined_session.JoinedSession.{JoinedSession}
use Rattle.ss_review.specs.sessions.Sessions.{sessions, of_session}
use Rattle.ss_review.specs.sessions.Verified.{Answers, joined}
use Rattle.ss_review.specs.announced.Announced.{Key, Row, keys, hashes_for}

abbrev pub key_of : MessageNumber → Key
key_of n = record { session = n.session.now; group = n.group; number = n.number }

-- the one hash of a list that has no other
abbrev pub only_hash : List Hash → Option Hash
only_hash [] = None
only_hash (h ∷ []) = Some h
only_hash (h ∷ g ∷ hs) = None

-- what each key is announced with, or none where it is disputed
abbrev pub only_hashes : List Row → List (Option Hash)
only_hashes rs = map (λ k. only_hash (hashes_for rs k)) (keys rs)

abbrev pub session_with_joined : JoinedSession → Session × Result (List ℕ) SessionState
session_with_joined s = (s.session, s.joined)

-- each session, in order, with its joined payload or its state
abbrev pub sessions_joined : Answers → List BlockMessage → List (Session × Result (List ℕ) SessionState)
sessions_joined says bs = map (λ s. (s, joined says (of_session bs s))) (sessions bs)
