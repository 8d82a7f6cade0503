-- What holds of every log.
use Rattle.std.specs.Prelude.{◌≡◌, ◌↔◌, ℕ, ◌+◌, ◌<◌, true, List, [], ◌∷◌, ◌++◌, length, Contains, Some, Ok}
use Rattle.ss_block.specs.declared.spoil.Spoil.{Spoil}
use Rattle.ss_review.specs.declared.report.entry.Why.{Why}
use Rattle.ss_review.specs.declared.report.report.Report.{Report}
use Rattle.ss_review.specs.keep.Notes.{Note, Spoilt, note, notes}
use Rattle.ss_review.specs.keep.Contents.{normals, blocks, contents}
use Rattle.ss_block.specs.declared.session.Session.{Session}
use Rattle.ss_review.specs.declared.report.session_report.SessionState.{SessionState}
use Rattle.ss_review.specs.sessions.Sessions.{of_session}
use Rattle.ss_review.specs.sessions.Verified.{Answers, joined, state_in}
use Rattle.ss_review.specs.announced.Announced.{Key, rows, keys, is_disputed_key}
use Rattle.ss_review.specs.assign.Assigned.{assigned}
use Rattle.ss_review.specs.report.Report.{report}
use Rattle.ss_review.specs.declared.questions.question.Question.{Question}
use Rattle.ss_review.specs.questions.Questions.{questions, answer}
use Rattle.ss_review.specs.announced.Announcing.{IsAnnounced, IsDisputedKey}
use Rattle.ss_review.specs.sessions.States.{IsJoinedUnder, IsInState}
use Rattle.ss_review.specs.assign.Listing.{IsDue}
use Rattle.ss_review.specs.report.Meaning.{IsListed, IsGap, IsTold, IsInOrder, IsReport}
use Rattle.ss_review.specs.report.Witness.{IsWitnessed}
use Rattle.ss_review.specs.report.Accounts.{Account, HasAccount}

-- the key is assigned the place, in a log with these notes
abbrev pub IsAssigned : Answers → List Note → Key → ℕ → Type 0
IsAssigned says ns k place = assigned (normals ns) (rows says (blocks ns)) k ≡ Some place

-- a place is assigned to one key at most
abbrev pub PlacesHaveOneKey : Type 0
PlacesHaveOneKey =
    (says : Answers) (log : List (List ℕ)) (k j : Key) (place : ℕ)
    → IsAssigned says (notes log) k place → IsAssigned says (notes log) j place → k ≡ j

-- what is listed is what is assigned
abbrev pub ListedAreAssigned : Type 0
ListedAreAssigned =
    (says : Answers) (log : List (List ℕ)) (k : Key) (place : ℕ)
    → IsListed (report says log) k place ↔ IsAssigned says (notes log) k place

-- for each listed message the log has a block that announces it
abbrev pub ListedAreWitnessed : Type 0
ListedAreWitnessed =
    (says : Answers) (log : List (List ℕ)) (k : Key) (place : ℕ)
    → IsListed (report says log) k place → IsWitnessed says log k place

-- the gaps are the announced keys that are assigned no place
abbrev pub GapsAreUnassigned : Type 0
GapsAreUnassigned =
    (says : Answers) (log : List (List ℕ)) (k : Key)
    → ((why : Why) × IsGap (report says log) k why) ↔ (IsAnnounced says (blocks (notes log)) k
    × ((place : ℕ) → ¬ IsAssigned says (notes log) k place))

-- the keys of a log are the numbers for which a verified block has a hash, and the disputed ones those with two
abbrev pub KeysAreAnnounced : Type 0
KeysAreAnnounced =
    (says : Answers) (log : List (List ℕ)) (k : Key)
    → (Contains (keys (rows says (blocks (notes log)))) k ↔ IsAnnounced says (blocks (notes log)) k)
    × ((is_disputed_key (rows says (blocks (notes log))) k ≡ true) ↔ IsDisputedKey says (blocks (notes log)) k)

-- each announced number is listed or a gap, and no other number is
abbrev pub AnnouncedAreTold : Type 0
AnnouncedAreTold =
    (says : Answers) (log : List (List ℕ)) (k : Key)
    → IsTold (report says log) k ↔ IsAnnounced says (blocks (notes log)) k

-- a report is in rising order
abbrev pub ReportsAreInOrder : Type 0
ReportsAreInOrder = (says : Answers) (log : List (List ℕ)) → IsInOrder (report says log)

-- every log has a report, and no other
abbrev pub OneReport : Type 0
OneReport =
    ((says : Answers) (log : List (List ℕ)) → IsReport says (contents (notes log)) (report says log))
    × ((says : Answers) (log : List (List ℕ)) (r : Report) → IsReport says (contents (notes log)) r
    → r ≡ report says log)

-- What a report lists of a log. The listed messages are exactly those assigned to announced numbers, and exactly those
-- that are due, by membership and counts: each one's hash stands at its number in a block on whose exact signed octets
-- the scheme says yes under the session's joined payload; no number and no stored message is listed twice, numbers rise
-- within session and group, and the gaps are exactly the numbers announced but unmatched.
pub record ListsWhatIsAnnounced (says : Answers) (log : List (List ℕ)) (r : Report) : Type 0 where
  pub listed : (k : Key) (place : ℕ) → IsListed r k place ↔ IsAssigned says (notes log) k place
  pub due : (k : Key) (place : ℕ) → IsListed r k place ↔ IsDue says (contents (notes log)) k place
  pub witnessed : (k : Key) (place : ℕ) → IsListed r k place → IsWitnessed says log k place
  pub number_once : (k : Key) (place other : ℕ) → IsListed r k place → IsListed r k other → place ≡ other
  pub message_once : (k j : Key) (place : ℕ) → IsListed r k place → IsListed r j place → k ≡ j
  pub rising : IsInOrder r
  pub gaps : (k : Key)
      → ((why : Why) × IsGap r k why) ↔ (IsAnnounced says (blocks (notes log)) k
      × ((place : ℕ) → ¬ IsAssigned says (notes log) k place))

abbrev pub ReportsListWhatIsAnnounced : Type 0
ReportsListWhatIsAnnounced = (says : Answers) (log : List (List ℕ)) → ListsWhatIsAnnounced says log (report says log)

-- two logs with equal notes have equal reports
abbrev pub NotesSuffice : Type 0
NotesSuffice = (says : Answers) (log other : List (List ℕ)) → notes log ≡ notes other
    → report says log ≡ report says other

-- two schemes that answer alike all that is asked about a log give it one report
abbrev pub AgreeingSchemesGiveOneReport : Type 0
AgreeingSchemesGiveOneReport =
    (says other : Answers) (log : List (List ℕ))
    → ((q : Question) → Contains (questions (blocks (notes log))) q → answer says q ≡ answer other q)
    → report says log ≡ report other log

abbrev pub with_spoilt : Report → Spoil → Report
with_spoilt r cause = record {
  sessions = r.sessions;
  unlisted = r.unlisted;
  refused = r.refused;
  spoilt = r.spoilt ++ record { place = r.count; cause = cause } ∷ [];
  count = r.count + 1;
}

-- a spoilt block at the end of a log adds itself and one to the count, and changes nothing else
abbrev pub SpoiltEndsAddThemselves : Type 0
SpoiltEndsAddThemselves =
    (says : Answers) (log : List (List ℕ)) (message : List ℕ) (cause : Spoil)
    → note message ≡ Spoilt cause
    → report says (log ++ message ∷ []) ≡ with_spoilt (report says log) cause

-- A key is assigned a place exactly where it isn't disputed, the message there has the hashes of the first message with
-- the announced hash, and as many smaller keys want these hashes as messages with them stand before the place.
abbrev pub AssignedWhereDue : Type 0
AssignedWhereDue =
    (says : Answers) (log : List (List ℕ)) (k : Key) (place : ℕ)
    → IsAssigned says (notes log) k place ↔ IsDue says (contents (notes log)) k place

-- the state of a session is the one that its certificate blocks state together, and no other
abbrev pub StatesAreTheirs : Type 0
StatesAreTheirs =
    (says : Answers) (log : List (List ℕ)) (s : Session) (state : SessionState)
    → (state_in (joined says (of_session (blocks (notes log)) s)) ≡ state)
    ↔ IsInState says (of_session (blocks (notes log)) s) state

-- a session is joined under exactly the text that its certificate blocks state together, which is trusted and accepted
abbrev pub JoinedPayloadsAreStated : Type 0
JoinedPayloadsAreStated =
    (says : Answers) (log : List (List ℕ)) (s : Session) (text : List ℕ)
    → (joined says (of_session (blocks (notes log)) s) ≡ Ok text)
    ↔ IsJoinedUnder says (of_session (blocks (notes log)) s) text

-- each place of a log is exactly one of listed, unlisted, a verified block, refused and spoilt, and no other place is
-- any
abbrev pub EveryPlaceIsTold : Type 0
EveryPlaceIsTold =
    (says : Answers) (log : List (List ℕ)) (place : ℕ)
    → (place < length log
    → (account : Account) × HasAccount says (blocks (notes log)) (report says log) place account
    × ((other : Account) → HasAccount says (blocks (notes log)) (report says log) place other → other ≡ account))
    × ((account : Account) → HasAccount says (blocks (notes log)) (report says log) place account → place < length log)
