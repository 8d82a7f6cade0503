-- A log to which strangers added messages: whoever holds no key of a trusted payload.
use Rattle.std.specs.Prelude.{◌≡◌, ◌⊎◌, ℕ, ◌<◌, ◌≤◌, true, false, List, length, map, Contains, Ok}
use Rattle.ss_block.specs.declared.hash.Hash.{Hash}
use Rattle.ss_block.specs.declared.hash.HashPair.{HashPair}
use Rattle.ss_block.specs.declared.session.Session.{Session}
use Rattle.ss_review.specs.declared.counted.counter.Counter.{Counter}
use Rattle.ss_review.specs.keep.BlockMessage.{BlockMessage}
use Rattle.ss_review.specs.declared.keep.message.NormalMessage.{NormalMessage}
use Rattle.ss_review.specs.declared.report.entry.Entry.{Entry}
use Rattle.ss_review.specs.declared.report.entry.Entry.TheVariants as entry
use Rattle.ss_review.specs.declared.report.entry.Why.TheVariants as whys
use Rattle.ss_review.specs.declared.report.group_report.GroupReport.{GroupReport}
use Rattle.ss_review.specs.declared.report.session_report.SessionReport.{SessionReport}
use Rattle.ss_review.specs.announced.Announced.{Key, rows}
use Rattle.ss_review.specs.announced.Announcing.{Announces}
use Rattle.ss_review.specs.assign.Assigned.{has_hash, places_with}
use Rattle.ss_review.specs.counted.Counted.{gbcs}
use Rattle.ss_review.specs.counted.Kept.{shortfall}
use Rattle.ss_review.specs.keep.Contents.{Contents}
use Rattle.ss_review.specs.report.Meaning.{IsListed, IsGap}
use Rattle.ss_review.specs.report.Report.{session_report}
use Rattle.ss_review.specs.sessions.Sessions.{of_session}
use Rattle.ss_review.specs.sessions.Verified.{Answers, is_valid}
use Rattle.ss_review.specs.pinned.Pinned.{kept, pinned_contents, pinned_report}
use Rattle.ss_laws.specs.strangers.StateLaws.{pinned_joined}
use Rattle.ss_review.specs.pinned.Claimants.{AreWithin, IsClaimant}

-- ---- what strangers add

-- the blocks are copies of one block, and may stand at different places
pub record AreCopies (b c : BlockMessage) : Type 0 where
  pub session : b.session ≡ c.session
  pub said : b.said ≡ c.said
  pub signed : b.signed ≡ c.signed

-- the block is valid under no trusted payload
abbrev pub IsForeign : Answers → BlockMessage → Type 0
IsForeign says b = (payload : List ℕ) → says.trusted payload ≡ true → is_valid says payload b ≡ false

-- The second log has what the first one has, and more: any messages without a block, any spoilt ones, copies of blocks,
-- and foreign blocks. Each may stand anywhere.
pub record HasMore (says : Answers) (log more : Contents) : Type 0 where
  pub stays : (b : BlockMessage) → Contains log.blocks b → (c : BlockMessage) × Contains more.blocks c × AreCopies b c
  pub added : (c : BlockMessage) → Contains more.blocks c
      → ((b : BlockMessage) × Contains log.blocks b × AreCopies b c) ⊎ IsForeign says c
  pub messages : (p : HashPair) → length (places_with log.normal p) ≤ length (places_with more.normal p)

-- Messages of the log that have one hash that is announced have both hashes in common.
abbrev pub AnnouncedTellPairs : Answers → List BlockMessage → List NormalMessage → Type 0
AnnouncedTellPairs says bs ms = (k : Key) (h : Hash) (m n : NormalMessage)
    → Announces says bs k h → Contains ms m → Contains ms n → has_hash h m.pair ≡ true → has_hash h n.pair ≡ true
    → m.pair ≡ n.pair

-- strangers added to the log what makes it the second one
pub record IsAddedTo (says : Answers) (ps : List (List ℕ)) (log more : Contents) : Type 0 where
  pub within : AreWithin log.blocks
  pub more_within : AreWithin more.blocks
  pub has_more : HasMore says log more
  pub pairs : AnnouncedTellPairs says (kept says ps log.blocks) more.normal

-- ---- what stays of a report

-- what is reported of a session by given payloads
abbrev pub session_in : Answers → List (List ℕ) → Contents → Session → SessionReport
session_in says ps log s =
    session_report says (pinned_contents says ps log) (rows says (kept says ps log.blocks)) s

-- the GBC of its verified signature blocks
abbrev pub gbcs_in : Answers → List (List ℕ) → Contents → Session → List ℕ
gbcs_in says ps log s = gbcs says (kept says ps log.blocks) s

-- an entry without whether its message is there, if its number isn't disputed
abbrev pub without_place : Entry → Entry
without_place (entry.Listed number place) = entry.Gap number whys.Lost
without_place (entry.Gap number why) = entry.Gap number why
without_place (entry.Hole first last) = entry.Hole first last

abbrev pub group_without_places : GroupReport → GroupReport
group_without_places g = record { group = g.group; entries = map without_place g.entries }

abbrev pub without_places : SessionReport → SessionReport
without_places t = record { session = t.session; state = t.state; groups = map group_without_places t.groups }

-- a message of the first log that stands at a place, and one of the second log with the same hashes
pub record IsStill (says : Answers) (ps : List (List ℕ)) (log more : Contents) (k : Key) (place : ℕ) : Type 0 where
  pub message : NormalMessage
  pub stored : Contains log.normal message
  pub place_is : message.place ≡ place
  pub now : NormalMessage
  pub stored_now : Contains more.normal now
  pub listed_now : IsListed (pinned_report says ps more) k now.place
  pub same : now.pair ≡ message.pair

-- The session is reported alike, but for which numbers are listed: its state and payload, its announced and disputed
-- numbers, the holes between them, and what is missing of it up to any counters. What was listed is listed still.
pub record IsReportedAlike (says : Answers) (ps : List (List ℕ)) (log more : Contents) (s : Session) : Type 0 where
  pub told : Contains (pinned_report says ps log).sessions (session_in says ps log s)
  pub told_still : Contains (pinned_report says ps more).sessions (session_in says ps more s)
  pub payload : pinned_joined says ps more.blocks s ≡ pinned_joined says ps log.blocks s
  pub numbers : without_places (session_in says ps more s) ≡ without_places (session_in says ps log s)
  pub gbcs_are : gbcs_in says ps more s ≡ gbcs_in says ps log s
  pub missing : (cs : List Counter)
      → shortfall cs s (session_in says ps more s).groups (gbcs_in says ps more s)
      ≡ shortfall cs s (session_in says ps log s).groups (gbcs_in says ps log s)
  pub listed : (k : Key) (place : ℕ) → k.session ≡ s → IsListed (pinned_report says ps log) k place
      → IsStill says ps log more k place

-- So it is of each session that a given payload claims.
abbrev pub StrangersTakeNothing : Type 0
StrangersTakeNothing = (says : Answers) (ps : List (List ℕ)) (log more : Contents) → IsAddedTo says ps log more
    → (s : Session) (p : List ℕ) → IsClaimant says ps (of_session log.blocks s) p
    → IsReportedAlike says ps log more s

-- ---- what is listed anew

-- some given payload claims each session that is joined
abbrev pub JoinedAreClaimed : Answers → List (List ℕ) → List BlockMessage → Type 0
JoinedAreClaimed says ps bs = (s : Session) (payload : List ℕ) → pinned_joined says ps bs s ≡ Ok payload
    → (p : List ℕ) × IsClaimant says ps (of_session bs s) p

-- the second log has more messages with the hashes of the one at a place
pub record HasMoreOf (log more : Contents) (place : ℕ) : Type 0 where
  pub message : NormalMessage
  pub stored : Contains more.normal message
  pub place_is : message.place ≡ place
  pub as_many : length (places_with log.normal message.pair) < length (places_with more.normal message.pair)

-- If a given payload claims each session that is joined, a number whose message was missing is listed only where a
-- message was added with the hashes of the one that is listed.
abbrev pub StrangersAddNothing : Type 0
StrangersAddNothing = (says : Answers) (ps : List (List ℕ)) (log more : Contents) → IsAddedTo says ps log more
    → JoinedAreClaimed says ps log.blocks
    → (k : Key) (place : ℕ) → IsGap (pinned_report says ps log) k whys.Lost
    → IsListed (pinned_report says ps more) k place → HasMoreOf log more place
