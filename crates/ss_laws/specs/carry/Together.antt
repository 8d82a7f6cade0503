-- When the nights together report what one review of their files reports.
use Rattle.std.specs.Prelude.{◌≡◌, ◌≢◌, ◌↔◌, ◌⊎◌, ◌+◌, ◌<◌, ◌≤◌, ◌&&◌, ℕ, not, true, false, count_by, Contains, Some}
use Rattle.std.specs.Prelude.{None}
use Rattle.std.specs.List.{sum_by, range_with_len}
use Rattle.std.specs.declared.cmp.Ordering.TheVariants.{Less}
use Rattle.ss_block.specs.declared.hash.Hash.{Hash}
use Rattle.ss_block.specs.declared.hash.HashPair.{HashPair}
use Rattle.ss_block.specs.declared.session.Session.{Session}
use Rattle.ss_review.specs.keep.BlockMessage.{BlockMessage}
use Rattle.ss_review.specs.declared.keep.spoilt.SpoiltPlace.{SpoiltPlace}
use Rattle.ss_review.specs.keep.Contents.{Contents}
use Rattle.ss_review.specs.sessions.Verified.{Answers, is_verified}
use Rattle.ss_review.specs.announced.Announced.{Key, key_cmp, rows}
use Rattle.ss_review.specs.assign.Assigned.{has_hash, same_pair, is_taken}
use Rattle.ss_review.specs.announced.Announcing.{Announces, IsAnnounced, IsDisputedKey}
use Rattle.ss_review.specs.assign.Listing.{Wants}
use Rattle.ss_review.specs.report.Report.{refused}
use Rattle.ss_laws.specs.carry.Nights.{Nights, is_reviewed, night_log, so_far, AreContents, IsJoined, listed, LeaveEnough}
use Rattle.ss_laws.specs.carry.Nights.{IsSettled, IsSettledBefore, HasPair}

-- ---- premises

-- something is announced for the key, undisputed, and it is listed nowhere
pub record IsLost (says : Answers) (log : Contents) (k : Key) (h : Hash) : Type 0 where
  pub announced : Announces says log.blocks k h
  pub undisputed : ¬ IsDisputedKey says log.blocks k
  pub unlisted : listed says log k ≡ None

-- the messages of a file stand after those of the files before
abbrev pub FilesFollow : Nights → Type 0
FilesFollow x = (place other : ℕ) → place < other → other < x.whole.count → x.file place ≤ x.file other

-- no session is disputed in the end of which a night left a verified block behind
abbrev pub JoinedStay : Answers → Nights → ℕ → Type 0
JoinedStay says x last =
    (night : ℕ) (b : BlockMessage) → night < last → Contains (night_log x night).blocks b
    → is_verified says (night_log x night).blocks b ≡ true → x.left night b.place ≡ false
    → IsJoined says (night_log x last).blocks b.session

-- no settled number is announced later with another hash
abbrev pub HashesStay : Answers → Nights → ℕ → Type 0
HashesStay says x last =
    (night later : ℕ) (k : Key) (place : ℕ) (g h : Hash) → night < later → later ≤ last → IsSettled says x night k place
    → Announces says (night_log x night).blocks k g → Announces says (night_log x later).blocks k h → g ≡ h

-- no settled number is listed later
abbrev pub NoneListedAgain : Answers → Nights → ℕ → Type 0
NoneListedAgain says x last =
    (night later : ℕ) (k : Key) (place : ℕ) → night < later → later ≤ last → IsSettled says x night k place
    → listed says (night_log x later) k ≡ None

-- no number that is lost in the end, and unsettled, comes before a settled one whose message has the hash that is lost
abbrev pub LostStandBehind : Answers → Nights → ℕ → Type 0
LostStandBehind says x last =
    (night : ℕ) (k : Key) (place : ℕ) (p : HashPair) (j : Key) (h : Hash) → night < last
    → IsSettled says x night k place
    → HasPair x.whole place p → IsLost says (night_log x last) j h → ¬ IsSettledBefore says x last j
    → has_hash h p ≡ true → key_cmp j k ≢ Less

-- no number wants another message later, with the hash of a settled one that stands before it
abbrev pub NoOtherWanted : Answers → Nights → ℕ → Type 0
NoOtherWanted says x last =
    (night later : ℕ) (k : Key) (place : ℕ) (p : HashPair) (j : Key) (q : HashPair)
    (w : Wants says (night_log x later) j q)
    → night < later → later ≤ last → IsSettled says x night k place → HasPair x.whole place p
    → place < w.bearer.place → has_hash w.hash p ≡ true → p ≡ q

-- what has to hold of the nights up to the last one
pub record AgreeLater (says : Answers) (x : Nights) (last : ℕ) : Type 0 where
  pub joined : JoinedStay says x last
  pub hash : HashesStay says x last
  pub again : NoneListedAgain says x last
  pub lost : LostStandBehind says x last
  pub collision : NoOtherWanted says x last

-- What the reports of the nights alone may show: a session that is joined stays joined, no settled number is announced
-- again, and no number at all is lost in the end.
pub record ReportsShow (says : Answers) (x : Nights) (last : ℕ) : Type 0 where
  pub joined : (night later : ℕ) (s : Session) → night < later → later ≤ last
      → IsJoined says (night_log x night).blocks s → IsJoined says (night_log x later).blocks s
  pub unannounced : (night later : ℕ) (k : Key) (place : ℕ) → night < later → later ≤ last
      → IsSettled says x night k place
      → ¬ IsAnnounced says (night_log x later).blocks k
  pub none_lost : (k : Key) (h : Hash) → ¬ IsLost says (night_log x last) k h

-- ---- what the nights together report

-- the log lists the key with a message of these hashes
abbrev pub IsListedWith : Answers → Contents → Key → HashPair → Type 0
IsListedWith says log k p = (place : ℕ) × (listed says log k ≡ Some place) × HasPair log place p

-- some night before settled the key with a message of these hashes
abbrev pub IsSettledWith : Answers → Nights → ℕ → Key → HashPair → Type 0
IsSettledWith says x last k p =
    (night : ℕ) × (place : ℕ) × (night < last) × IsSettled says x night k place × HasPair x.whole place p

-- how many messages with these hashes are listed nowhere
abbrev pub unlisted_with : Answers → Contents → HashPair → ℕ
unlisted_with says log p =
    count_by (λ m. same_pair m.pair p && not (is_taken log.normal (rows says log.blocks) m.place)) log.normal

-- the block at the place is refused in the last night, or one before refused it and left it behind
abbrev pub IsRefusedInNights : Answers → Nights → ℕ → ℕ → Type 0
IsRefusedInNights says x last place =
    Contains (refused says (night_log x last).blocks) place
    ⊎ ((night : ℕ) × (night < last) × Contains (refused says (night_log x night).blocks) place
    × (x.left night place ≡ false))

-- how many messages the night leaves over of those that it reviewed
abbrev pub left_count : Nights → ℕ → ℕ
left_count x night =
    count_by (λ place. is_reviewed x night place && x.left night place) (range_with_len 0 x.whole.count)

-- each place of another kind is reported by some night, and none twice
pub record TellPlaces (says : Answers) (x : Nights) (last : ℕ) : Type 0 where
  pub refused : (place : ℕ) → Contains (refused says (so_far x last).blocks) place ↔ IsRefusedInNights says x last place
  pub spoilt : (s : SpoiltPlace)
      → Contains (so_far x last).spoilt s ↔ ((night : ℕ) × (night ≤ last) × Contains (night_log x night).spoilt s)
  pub spoilt_once : (s : SpoiltPlace) (night other : ℕ) → night ≤ last → other ≤ last
      → Contains (night_log x night).spoilt s → Contains (night_log x other).spoilt s → night ≡ other
  pub count : (so_far x last).count + sum_by (left_count x) (range_with_len 0 last)
      ≡ sum_by (λ night. (night_log x night).count) (range_with_len 0 (last + 1))

-- the nights up to the last one list what a review of all their files lists, and lack what it lacks
pub record TellNumbers (says : Answers) (x : Nights) (last : ℕ) : Type 0 where
  pub listed : (k : Key) (p : HashPair)
      → IsListedWith says (so_far x last) k p ↔ (IsListedWith says (night_log x last) k p
      ⊎ IsSettledWith says x last k p)
  pub disputed : (k : Key) → IsDisputedKey says (so_far x last).blocks k
      ↔ (IsDisputedKey says (night_log x last).blocks k × (¬ IsSettledBefore says x last k))
  pub lost : (k : Key) (h : Hash) → IsLost says (so_far x last) k h
      ↔ (IsLost says (night_log x last) k h × (¬ IsSettledBefore says x last k))
  pub unlisted : (p : HashPair) → unlisted_with says (so_far x last) p ≡ unlisted_with says (night_log x last) p

abbrev pub PlacesOfNights : Type 0
PlacesOfNights =
    (says : Answers) (x : Nights) (last : ℕ) → AreContents x.whole → LeaveEnough says x last → JoinedStay says x last
    → TellPlaces says x last

abbrev pub NumbersOfNights : Type 0
NumbersOfNights =
    (says : Answers) (x : Nights) (last : ℕ) → AreContents x.whole → FilesFollow x → LeaveEnough says x last
    → AgreeLater says x last
    → TellNumbers says x last

-- where lost numbers may stand anywhere, as many messages with given hashes are still unlisted as in the last night
abbrev pub UnlistedOfNights : Type 0
UnlistedOfNights =
    (says : Answers) (x : Nights) (last : ℕ) → AreContents x.whole → FilesFollow x → LeaveEnough says x last
    → JoinedStay says x last → HashesStay says x last → NoneListedAgain says x last → NoOtherWanted says x last
    → (p : HashPair) → unlisted_with says (so_far x last) p ≡ unlisted_with says (night_log x last) p

-- so the reports alone are enough for all premises but the one on two messages with one hash
abbrev pub ReportsAreEnough : Type 0
ReportsAreEnough =
    (says : Answers) (x : Nights) (last : ℕ) → ReportsShow says x last → NoOtherWanted says x last
    → AgreeLater says x last
