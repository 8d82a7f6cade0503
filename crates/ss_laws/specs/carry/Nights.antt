-- A log that is reviewed night by night: each night reviews its own file, and before it what was left over.
use Rattle.std.specs.Prelude.{◌≡◌, ◌+◌, ◌<◌, ◌≤◌, ◌==◌, ◌||◌, ◌&&◌, ℕ, zero, suc, nat_le, Bool, true, false, List}
use Rattle.std.specs.Prelude.{length, filter, count_by, Contains, Option, Some, None, Ok}
use Rattle.std.specs.List.{range_with_len}
use Rattle.ss_block.specs.Block as block
use Rattle.ss_block.specs.declared.hash.Hash.{Hash}
use Rattle.ss_block.specs.declared.hash.HashPair.{HashPair}
use Rattle.ss_block.specs.declared.session.Session.{Session}
use Rattle.ss_review.specs.declared.keep.message.NormalMessage.{NormalMessage}
use Rattle.ss_review.specs.keep.BlockMessage.{BlockMessage, Fragment}
use Rattle.ss_review.specs.declared.keep.spoilt.SpoiltPlace.{SpoiltPlace}
use Rattle.ss_review.specs.keep.Notes.{notes}
use Rattle.ss_review.specs.keep.Contents.{Contents, contents}
use Rattle.ss_review.specs.sessions.Sessions.{of_session}
use Rattle.ss_review.specs.sessions.Verified.{Answers, joined, is_verified}
use Rattle.ss_review.specs.announced.Announced.{Key, rows}
use Rattle.ss_review.specs.assign.Assigned.{assigned, is_taken}
use Rattle.ss_review.specs.announced.Announcing.{Announces}

-- ---- the logs of the nights

-- what the files of all nights hold, which night's file each place belongs to, and what each night leaves over
pub record Nights : Type 0 where
  pub whole : Contents
  pub file : ℕ → ℕ
  pub left : ℕ → ℕ → Bool

-- the messages at places that pass a test, which keep their places
abbrev pub at_places : (ℕ → Bool) → Contents → Contents
at_places is log = record {
  normal = filter (λ m. is m.place) log.normal;
  blocks = filter (λ b. is b.place) log.blocks;
  spoilt = filter (λ s. is s.place) log.spoilt;
  count = count_by is (range_with_len 0 log.count);
}

-- the night reviews its own file, and what the night before reviewed and left over
abbrev pub is_reviewed : Nights → ℕ → ℕ → Bool
is_reviewed x zero place = x.file place == 0
is_reviewed x (suc night) place = (x.file place == suc night) || (is_reviewed x night place && x.left night place)

-- what the night reviews
abbrev pub night_log : Nights → ℕ → Contents
night_log x night = at_places (is_reviewed x night) x.whole

-- the files up to that of the night
abbrev pub so_far : Nights → ℕ → Contents
so_far x night = at_places (λ place. nat_le (x.file place) night) x.whole

-- these are the contents of some log
abbrev pub AreContents : Contents → Type 0
AreContents c = (log : List (List ℕ)) × (c ≡ contents (notes log))

-- ---- what is left over

abbrev pub IsJoined : Answers → List BlockMessage → Session → Type 0
IsJoined says bs s = (payload : List ℕ) × (joined says (of_session bs s) ≡ Ok payload)

-- a verified certificate block of the session has an octet at the index
pub record HasVerifiedOctet (says : Answers) (bs : List BlockMessage) (s : Session) (index : ℕ) : Type 0 where
  pub message : BlockMessage
  pub stored : Contains bs message
  pub verified : is_verified says bs message ≡ true
  pub session_is : message.session ≡ s
  pub said : block.Certificate
  pub says_so : message.said ≡ Fragment said
  pub from : said.index ≤ index
  pub to : index < said.index + length said.fragment

-- the place at which a log lists the key, or none
abbrev pub listed : Answers → Contents → Key → Option ℕ
listed says log k = assigned log.normal (rows says log.blocks) k

-- a verified block that is left over announces the key
pub record IsKept (says : Answers) (log : Contents) (left : ℕ → Bool) (k : Key) : Type 0 where
  pub hash : Hash
  pub announced : Announces says log.blocks k hash
  pub left_over : left announced.message.place ≡ true

-- what has to be left over of a log for the nights to come, and what has not to be
pub record LeavesEnough (says : Answers) (log : Contents) (left : ℕ → Bool) : Type 0 where
  -- all blocks of a session that isn't joined
  pub unjudged : (b : BlockMessage) → Contains log.blocks b → ¬ IsJoined says log.blocks b.session → left b.place ≡ true
  -- of a joined session, certificate blocks with all octets that its verified ones have
  pub certificates : (s : Session) (index : ℕ) → HasVerifiedOctet says log.blocks s index
      → (o : HasVerifiedOctet says log.blocks s index) × (left o.message.place ≡ true)
  -- each block that announces a number which isn't listed
  pub gaps : (k : Key) (h : Hash) (a : Announces says log.blocks k h) → listed says log k ≡ None
      → left a.message.place ≡ true
  -- each message that isn't listed
  pub unlisted : (m : NormalMessage) → Contains log.normal m
      → is_taken log.normal (rows says log.blocks) m.place ≡ false
      → left m.place ≡ true
  -- a listed message exactly where a block that announces its number is left over
  pub kept : (k : Key) (place : ℕ) → listed says log k ≡ Some place → IsKept says log left k → left place ≡ true
  pub unkept : (k : Key) (place : ℕ) → listed says log k ≡ Some place → ¬ IsKept says log left k → left place ≡ false
  -- no block of a joined session that isn't verified
  pub refused : (b : BlockMessage) → Contains log.blocks b → IsJoined says log.blocks b.session
      → is_verified says log.blocks b ≡ false → left b.place ≡ false
  -- and nothing that is spoilt
  pub spoilt : (s : SpoiltPlace) → Contains log.spoilt s → left s.place ≡ false

-- each night before this one leaves enough
abbrev pub LeaveEnough : Answers → Nights → ℕ → Type 0
LeaveEnough says x last = (night : ℕ) → night < last → LeavesEnough says (night_log x night) (x.left night)

-- ---- settled numbers

-- the night lists the key at the place, and leaves no block over that announces it
pub record IsSettled (says : Answers) (x : Nights) (night : ℕ) (k : Key) (place : ℕ) : Type 0 where
  pub listed : listed says (night_log x night) k ≡ Some place
  pub unkept : ¬ IsKept says (night_log x night) (x.left night) k

-- some night before this one settled the key
abbrev pub IsSettledBefore : Answers → Nights → ℕ → Key → Type 0
IsSettledBefore says x last k = (night : ℕ) × (place : ℕ) × (night < last) × IsSettled says x night k place

-- the message without a block at the place has these hashes
pub record HasPair (log : Contents) (place : ℕ) (p : HashPair) : Type 0 where
  pub message : NormalMessage
  pub stored : Contains log.normal message
  pub place_is : message.place ≡ place
  pub pair_is : message.pair ≡ p
