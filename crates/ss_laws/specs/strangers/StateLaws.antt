-- What it means to join sessions by given payloads, and where it changes what is reported.
use Rattle.std.specs.Prelude.{◌≡◌, ◌⊎◌, ℕ, false, List, Result, Ok, Err}
use Rattle.ss_block.specs.declared.session.Session.{Session}
use Rattle.ss_review.specs.keep.BlockMessage.{BlockMessage}
use Rattle.ss_review.specs.declared.report.session_report.SessionState.{SessionState}
use Rattle.ss_review.specs.declared.report.session_report.SessionState.TheVariants as states
use Rattle.ss_review.specs.keep.Contents.{Contents, blocks}
use Rattle.ss_review.specs.keep.Notes.{notes}
use Rattle.ss_review.specs.report.Report.{report_of}
use Rattle.ss_review.specs.sessions.Payloads.{certificates, is_disputed}
use Rattle.ss_review.specs.sessions.Sessions.{of_session}
use Rattle.ss_review.specs.sessions.Verified.{Answers, joined}
use Rattle.ss_review.specs.pinned.Pinned.{kept, pinned_report}
use Rattle.ss_review.specs.pinned.Claimants.{AreWithin, IsClaimant, IsUnclaimed, IsOnlyClaimant, AreClaimants}

-- the payload under which a session is joined, or else its state, among the blocks that are kept
abbrev pub pinned_joined : Answers → List (List ℕ) → List BlockMessage → Session → Result (List ℕ) SessionState
pinned_joined says ps bs s = joined says (of_session (kept says ps bs) s)

-- The blocks of each log lie within their payloads.
abbrev pub LogsAreWithin : Type 0
LogsAreWithin = (log : List (List ℕ)) → AreWithin (blocks (notes log))

-- ---- the state of a session

-- One, two or no given payloads claim the session. If one does, and no other, the session is joined under it. If two
-- different ones do, it is disputed. If none does, all of its blocks are kept, and so are its state and payload.
pub record IsJoinedByGiven (says : Answers) (ps : List (List ℕ)) (bs : List BlockMessage) (s : Session) : Type 0 where
  pub cases : ((p : List ℕ) × IsOnlyClaimant says ps (of_session bs s) p)
      ⊎ (((p : List ℕ) × (q : List ℕ) × AreClaimants says ps (of_session bs s) p q)
      ⊎ IsUnclaimed says ps (of_session bs s))
  pub one : (p : List ℕ) → IsOnlyClaimant says ps (of_session bs s) p → pinned_joined says ps bs s ≡ Ok p
  pub two : (p q : List ℕ) → AreClaimants says ps (of_session bs s) p q
      → pinned_joined says ps bs s ≡ Err states.Disputed
  pub none : IsUnclaimed says ps (of_session bs s) → of_session (kept says ps bs) s ≡ of_session bs s
  -- a session that some given payload claims is joined under that one alone
  pub exactly : (p q : List ℕ) → pinned_joined says ps bs s ≡ Ok p → IsClaimant says ps (of_session bs s) q
      → IsOnlyClaimant says ps (of_session bs s) p

abbrev pub SessionsAreJoinedByGiven : Type 0
SessionsAreJoinedByGiven = (says : Answers) (ps : List (List ℕ)) (bs : List BlockMessage) (s : Session)
    → AreWithin bs → IsJoinedByGiven says ps bs s

-- ---- where both ways of joining agree

-- no two certificate blocks of the session contradict each other, or no given payload claims it
abbrev pub IsUndisputedOrUnclaimed : Answers → List (List ℕ) → List BlockMessage → Session → Type 0
IsUndisputedOrUnclaimed says ps bs s =
    (is_disputed (certificates (of_session bs s)) ≡ false) ⊎ IsUnclaimed says ps (of_session bs s)

-- Such a session has one state and one payload, whichever way it is joined.
abbrev pub StatesAgree : Type 0
StatesAgree = (says : Answers) (ps : List (List ℕ)) (bs : List BlockMessage) (s : Session)
    → AreWithin bs → IsUndisputedOrUnclaimed says ps bs s
    → pinned_joined says ps bs s ≡ joined says (of_session bs s)

-- Only of a session that is disputed can given payloads change the state.
abbrev pub OnlyDisputesEnd : Type 0
OnlyDisputesEnd = (says : Answers) (ps : List (List ℕ)) (bs : List BlockMessage) (s : Session)
    → AreWithin bs
    → (pinned_joined says ps bs s ≡ joined says (of_session bs s)) ⊎ (joined says (of_session bs s) ≡ Err states.Disputed)

-- If each session is such a one, both ways give one report: the same sessions, entries and unlisted messages, and the
-- same refused blocks.
abbrev pub ReportsAgree : Type 0
ReportsAgree = (says : Answers) (ps : List (List ℕ)) (log : Contents)
    → AreWithin log.blocks → ((s : Session) → IsUndisputedOrUnclaimed says ps log.blocks s)
    → pinned_report says ps log ≡ report_of says log
