-- What a review reports about a log that delivers from originators of one session: exactly what the copies that are
-- there allow.
use Rattle.std.specs.Prelude.{◌≡◌, ◌≢◌, ◌↔◌, ℕ, ◌+◌, ◌-◌, ◌<◌, ◌≤◌, ◌&&◌, true, false, List, length, count_by}
use Rattle.std.specs.Prelude.{slice_get, Contains, Option, Some, None}
use Rattle.std.specs.List.{AllPairs}
use Rattle.std.specs.declared.cmp.Ordering.TheVariants.{Less}
use Rattle.std.specs.Ordering.{is_lt}
use Rattle.ss_block.specs.declared.reading.Reading.TheVariants as readings
use Rattle.ss_block.specs.declared.hash.Hash.{Hash}
use Rattle.ss_block.specs.declared.hash.HashPair.{HashPair}
use Rattle.ss_block.specs.Block as block
use Rattle.ss_block.specs.Hashes.{pair, hash_of}
use Rattle.ss_block.specs.Order.{session_cmp}
use Rattle.ss_block.specs.Reading.{reading}
use Rattle.ss_block.specs.Signed.{signed}
use Rattle.ss_payload.specs.Payload.{payload_text}
use Rattle.ss_origin.specs.Groups.{sg_of}
use Rattle.ss_origin.specs.Setting.{Setting}
use Rattle.ss_origin.specs.Chain.{Turn, IsChain, emitted_by, given_to}
use Rattle.ss_review.specs.declared.report.report.Report.{Report}
use Rattle.ss_review.specs.declared.report.session_report.SessionReport.{SessionReport}
use Rattle.ss_review.specs.declared.report.session_report.SessionState.TheVariants as states
use Rattle.ss_review.specs.declared.report.entry.Why.TheVariants as whys
use Rattle.ss_review.specs.declared.keep.message.NormalMessage.{NormalMessage}
use Rattle.ss_review.specs.keep.Notes.{note, notes}
use Rattle.ss_review.specs.keep.BlockMessage.{BlockContent}
use Rattle.ss_review.specs.keep.Contents.{said_in, normals, blocks}
use Rattle.ss_review.specs.sessions.Sessions.{same_session}
use Rattle.ss_review.specs.sessions.Verified.{Answers, signature_of}
use Rattle.ss_review.specs.announced.Announced.{Key, Row, key_cmp, rows, keys}
use Rattle.ss_review.specs.announced.Announcing.{Announces}
use Rattle.ss_review.specs.assign.Assigned.{places_with, wanted, is_pair}
use Rattle.ss_review.specs.report.Meaning.{IsListed, IsGap, IsTold}
use Rattle.ss_review.specs.report.Report.{report}
use Rattle.ss_review.specs.report.Verdict.{is_clean}
use Rattle.ss_review.specs.deliveries.Delivery.{own_session, is_normal, is_spoilt, Delivers, submitted_to, HasBegun}
use Rattle.ss_review.specs.deliveries.Delivery.{HasPayload, NothingPending, IsWholeDelivery}

-- Originators of one session that follow one another, a log, and what is answered of payloads and signatures.
pub record Case : Type 0 where
  pub s : Setting
  pub answers : Answers
  pub chain : List (List Turn)
  pub log : List (List ℕ)

abbrev pub says : Case → Answers
says x = x.answers

-- the answer to a block message of the originators in the log is yes where it is valid in their own scheme
abbrev pub AcceptsSent : Case → Type 0
AcceptsSent x = (m octets : List ℕ) (said : BlockContent) → Contains x.log m → Contains (emitted_by x.chain) m
    → said_in (reading m) ≡ Some said → signed m ≡ Some octets
    → x.s.valid (payload_text x.s.payload) octets (signature_of said) ≡ true
    → (says x).valid (payload_text x.s.payload) octets (signature_of said) ≡ true

-- the log delivers from the originators, their payload is trusted, and their blocks are accepted
pub record IsCase (x : Case) : Type 0 where
  pub chain : IsChain x.s x.chain
  pub delivers : Delivers x.s x.chain x.log
  pub trusts : (says x).trusted (payload_text x.s.payload) ≡ true
  pub accepts : AcceptsSent x

abbrev pub report_in : Case → Report
report_in x = report (says x) x.log

abbrev pub normals_in : Case → List NormalMessage
normals_in x = normals (notes x.log)

abbrev pub rows_in : Case → List Row
rows_in x = rows (says x) (blocks (notes x.log))

-- ---- what is not wrong

-- no message that was sent is spoilt, and no number of the session is a gap for a dispute
abbrev pub NothingIsDisputed : Type 0
NothingIsDisputed = (x : Case) → IsCase x
    → ((m : List ℕ) → Contains (emitted_by x.chain) m → is_spoilt (note m) ≡ false)
    × ((k : Key) → k.session ≡ own_session x.s → ¬ IsGap (report_in x) k whys.Disputed)

-- ---- joined

pub record IsListedAsJoined (x : Case) : Type 0 where
  pub entry : SessionReport
  pub of_report : Contains (report_in x).sessions entry
  pub own : entry.session ≡ own_session x.s
  pub joined : entry.state ≡ states.Joined

-- the session is joined exactly where `begin` was accepted and each fragment of the payload has a copy in the log
abbrev pub JoinedByFragments : Type 0
JoinedByFragments = (x : Case) → IsCase x → IsListedAsJoined x ↔ HasPayload x.chain x.log

-- ---- announced

-- a block that the chain sent stands in the log, and has a hash for this number
pub record HasBlock (x : Case) (k : Key) : Type 0 where
  pub message : List ℕ
  pub block : block.Signature
  pub stored : Contains x.log message
  pub sent : Contains (emitted_by x.chain) message
  pub read : reading message ≡ readings.Signature block
  pub group : block.group ≡ k.group
  pub first : block.first ≤ k.number
  pub last : k.number < block.first + length block.hashes

-- the message that the chain gave a number
abbrev pub message_of : Case → Key → Option (List ℕ)
message_of x k = slice_get (given_to x.s.config k.group.spri x.chain) (k.number - 1)

-- verified blocks announce the hash of the message which the chain gave the number, and no other
pub record HasItsHash (x : Case) (k : Key) : Type 0 where
  pub message : List ℕ
  pub given : message_of x k ≡ Some message
  pub announced : Announces (says x) (blocks (notes x.log)) k (hash_of x.s.config.alg message)
  pub no_other : (h : Hash) → Announces (says x) (blocks (notes x.log)) k h → h ≡ hash_of x.s.config.alg message
  pub number : 1 ≤ k.number
  pub group : k.group.sg ≡ sg_of x.s.config.grouping

-- A number is listed or a gap exactly where the session is joined and a block with a hash for it is in the log. It is
-- then announced with the hash of the message which the chain gave this number, and with no other.
abbrev pub AnnouncedByBlocks : Type 0
AnnouncedByBlocks = (x : Case) → IsCase x → (k : Key) → k.session ≡ own_session x.s
    → (IsTold (report_in x) k ↔ (IsListedAsJoined x × HasBlock x k))
    × (IsTold (report_in x) k → HasItsHash x k)

-- ---- listed

abbrev pub pair_of : Option (List ℕ) → Option HashPair
pair_of None = None
pair_of (Some m) = Some (pair m)

-- how many smaller announced numbers of the session have a message with these hashes
abbrev pub rank_in : Case → Key → HashPair → ℕ
rank_in x k p =
    count_by (λ j.
    is_lt (key_cmp j k) && same_session j.session (own_session x.s)
    && is_pair p (pair_of (message_of x j))) (keys (rows_in x))

-- a submitted message and one of the log without a block have equal pairs where they have equal hashes
abbrev pub HashesTellPairs : Case → Type 0
HashesTellPairs x = (m n : List ℕ) → Contains (submitted_to x.chain) m → Contains x.log n → is_normal (note n) ≡ true
    → hash_of x.s.config.alg m ≡ hash_of x.s.config.alg n → pair m ≡ pair n

-- no number of a session that stands before the originators' wants the hashes of a submitted message
abbrev pub OthersWantOthers : Case → Type 0
OthersWantOthers x = (k : Key) (m : List ℕ) → Contains (keys (rows_in x)) k
    → session_cmp k.session (own_session x.s) ≡ Less
    → Contains (submitted_to x.chain) m → wanted (normals_in x) (rows_in x) k ≢ Some (pair m)

-- the report lists a message under the number
abbrev pub HasMessage : Report → Key → Type 0
HasMessage r k = (place : ℕ) × IsListed r k place

-- An announced number is listed exactly where its rank is below the number of places with its message's hashes.
abbrev pub ListedByRank : Type 0
ListedByRank = (x : Case) → IsCase x → HashesTellPairs x → OthersWantOthers x
    → (k : Key) (m : List ℕ) → k.session ≡ own_session x.s → IsTold (report_in x) k → message_of x k ≡ Some m
    → HasMessage (report_in x) k ↔ (rank_in x k (pair m) < length (places_with (normals_in x) (pair m)))

-- a message without a block in the log has the hashes of this one
pub record IsStored (x : Case) (m : List ℕ) : Type 0 where
  pub message : List ℕ
  pub stored : Contains x.log message
  pub no_block : is_normal (note message) ≡ true
  pub pair_is : pair message ≡ pair m

-- Where no two submitted messages have equal pairs: exactly where some message without a block has these hashes.
abbrev pub ListedWhereStored : Type 0
ListedWhereStored = (x : Case) → IsCase x → HashesTellPairs x → OthersWantOthers x
    → AllPairs (λ m n. pair m ≢ pair n) (submitted_to x.chain)
    → (k : Key) (m : List ℕ) → k.session ≡ own_session x.s → IsTold (report_in x) k → message_of x k ≡ Some m
    → HasMessage (report_in x) k ↔ IsStored x m

-- The chain gave the number a message, and the message that is stored at the place has its hash.
pub record HasHashOfGiven (x : Case) (k : Key) (place : ℕ) : Type 0 where
  pub given : List ℕ
  pub given_is : message_of x k ≡ Some given
  pub stored : List ℕ
  pub stored_is : slice_get x.log place ≡ Some stored
  pub no_block : is_normal (note stored) ≡ true
  pub same_hash : hash_of x.s.config.alg stored ≡ hash_of x.s.config.alg given

-- What is listed under a number of the session has the hash of the message that the chain gave this number.
abbrev pub ListedHaveTheirHash : Type 0
ListedHaveTheirHash = (x : Case) → IsCase x
    → (k : Key) (place : ℕ) → k.session ≡ own_session x.s → IsListed (report_in x) k place → HasHashOfGiven x k place

-- ---- clean

-- Where everything that was sent is stored, each message as often as it was accepted, the session is joined and the
-- report clean: every session joined, every entry a listed message, and nothing unlisted, refused or spoilt.
abbrev pub WholeDeliveriesAreClean : Type 0
WholeDeliveriesAreClean = (x : Case) → IsCase x → HashesTellPairs x
    → HasBegun x.chain → NothingPending x.s.config x.chain → IsWholeDelivery x.chain x.log
    → IsListedAsJoined x × (is_clean (report_in x) ≡ true)
