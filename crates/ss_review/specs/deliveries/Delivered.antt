-- What stands between what originators sent and what a review reports about it.
use Rattle.std.specs.Prelude.{◌≡◌, ◌↔◌, ℕ, ◌+◌, ◌<◌, ◌≤◌, ◌⊎◌, Bool, true, false, nat_lt, List, [], ◌∷◌, length}
use Rattle.std.specs.Prelude.{count_by, Contains, Some, Ok, Err}
use Rattle.std.specs.List.{sum_by, range_with_len}
use Rattle.ss_block.specs.Hashes.{pair, hash_of}
use Rattle.ss_payload.specs.Payload.{payload_text}
use Rattle.ss_origin.specs.declared.config.Config.{Config}
use Rattle.ss_origin.specs.Groups.{sg_of, group_of}
use Rattle.ss_origin.specs.Calls.{spri_in}
use Rattle.ss_origin.specs.Chain.{Turn, emitted_by, given_to}
use Rattle.ss_review.specs.declared.report.session_report.SessionState.TheVariants as states
use Rattle.ss_review.specs.keep.BlockMessage.{BlockMessage}
use Rattle.ss_review.specs.keep.Notes.{note, notes}
use Rattle.ss_review.specs.keep.Contents.{block_in, blocks}
use Rattle.ss_review.specs.sessions.Sessions.{of_session}
use Rattle.ss_review.specs.sessions.Verified.{is_valid, joined}
use Rattle.ss_review.specs.announced.Announced.{Key, keys, hashes_for}
use Rattle.ss_review.specs.assign.Assigned.{same_pair, places_with}
use Rattle.ss_review.specs.report.Entries.{entry_of}
use Rattle.ss_review.specs.report.Verdict.{is_listed}
use Rattle.ss_review.specs.deliveries.Delivery.{own_session, is_normal, submitted_to, HasPayload, NothingPending}
use Rattle.ss_review.specs.deliveries.DeliveryLaws.{Case, IsCase, says, normals_in, rows_in, IsListedAsJoined, HasBlock}
use Rattle.ss_review.specs.deliveries.DeliveryLaws.{message_of, rank_in, HashesTellPairs, OthersWantOthers}

-- ---- blocks

-- a stored block that the chain sent, and whose signature is valid under its payload
pub record IsSentBlock (x : Case) (b : BlockMessage) : Type 0 where
  pub message : List ℕ
  pub stored : Contains x.log message
  pub sent : Contains (emitted_by x.chain) message
  pub read : block_in b.place message ≡ Some b
  pub valid : is_valid (says x) (payload_text x.s.payload) b ≡ true

-- each stored block of the session is one that the chain sent
abbrev pub OwnBlocksAreSent : Type 0
OwnBlocksAreSent = (x : Case) → IsCase x → (b : BlockMessage) → Contains (blocks (notes x.log)) b
    → b.session ≡ own_session x.s → IsSentBlock x b

-- a message as a block of the session in the log
pub record IsStoredBlock (x : Case) (m : List ℕ) : Type 0 where
  pub stored_block : BlockMessage
  pub stored : Contains (blocks (notes x.log)) stored_block
  pub read : block_in stored_block.place m ≡ Some stored_block
  pub own : stored_block.session ≡ own_session x.s

-- each block that the chain sent and that is in the log is stored as one of the session
abbrev pub SentBlocksAreStored : Type 0
SentBlocksAreStored = (x : Case) → IsCase x → (m : List ℕ) → Contains x.log m → Contains (emitted_by x.chain) m
    → is_normal (note m) ≡ false → IsStoredBlock x m

-- ---- the payload

-- the session is joined under the chain's payload where all of it arrived, and else incomplete
abbrev pub JoinsOwnPayload : Type 0
JoinsOwnPayload = (x : Case) → IsCase x
    → (HasPayload x.chain x.log
    × (joined (says x) (of_session (blocks (notes x.log)) (own_session x.s)) ≡ Ok (payload_text x.s.payload)))
    ⊎ ((¬ (HasPayload x.chain x.log))
    × (joined (says x) (of_session (blocks (notes x.log)) (own_session x.s)) ≡ Err states.Incomplete))

-- ---- numbers

-- the one hash that is announced for a key is that of the message which the chain gave the number
pub record HasOneHash (x : Case) (k : Key) : Type 0 where
  pub message : List ℕ
  pub given : message_of x k ≡ Some message
  pub hashes : hashes_for (rows_in x) k ≡ hash_of x.s.config.alg message ∷ []
  pub number : 1 ≤ k.number
  pub group : k.group.sg ≡ sg_of x.s.config.grouping

-- a key is announced exactly where the session is joined and a block has a hash for it, and then with one
abbrev pub KeysHaveBlocks : Type 0
KeysHaveBlocks = (x : Case) → IsCase x → (k : Key) → k.session ≡ own_session x.s
    → (Contains (keys (rows_in x)) k ↔ (IsListedAsJoined x × HasBlock x k))
    × (Contains (keys (rows_in x)) k → HasOneHash x k)

-- the entry of a key is a listed message exactly where its rank is below the number of places with its message's hashes
abbrev pub EntriesAreByRank : Type 0
EntriesAreByRank = (x : Case) → IsCase x → HashesTellPairs x → OthersWantOthers x
    → (k : Key) (m : List ℕ) → k.session ≡ own_session x.s → Contains (keys (rows_in x)) k → message_of x k ≡ Some m
    → is_listed (entry_of (normals_in x) (rows_in x) k)
    ≡ nat_lt (rank_in x k (pair m)) (length (places_with (normals_in x) (pair m)))

-- ---- messages

-- each submitted message was given to one group, where the groups have SPRIs below so many
abbrev pub MessagesAreInGroups : Type 0
MessagesAreInGroups = (c : Config) (chain : List (List Turn)) (test : List ℕ → Bool) (groups : ℕ)
    → ((m : List ℕ) → spri_in c.grouping m < groups)
    → count_by test (submitted_to chain) ≡ sum_by (λ spri.
    count_by test (given_to c spri chain)) (range_with_len 0 groups)

-- fewer smaller numbers have a message with these hashes than messages with them were submitted
abbrev pub RanksAreBelowCounts : Type 0
RanksAreBelowCounts = (x : Case) → IsCase x → (k : Key) (m : List ℕ) → k.session ≡ own_session x.s
    → Contains (keys (rows_in x)) k → message_of x k ≡ Some m
    → rank_in x k (pair m) + 1 ≤ count_by (λ n. same_pair (pair n) (pair m)) (submitted_to x.chain)

-- a number of a group of the originators' session
abbrev pub own_number : Case → ℕ → ℕ → Key
own_number x spri number =
    record { session = own_session x.s; group = group_of x.s.config.grouping spri; number = number }

-- Where no message is pending at an originator's end and each block arrived, each number that the chain gave a message
-- has a block in the log.
abbrev pub NumbersHaveBlocks : Type 0
NumbersHaveBlocks = (x : Case) → IsCase x → NothingPending x.s.config x.chain
    → ((m : List ℕ) → Contains (emitted_by x.chain) m → is_normal (note m) ≡ false → Contains x.log m)
    → (spri number : ℕ) → spri < 192 → 1 ≤ number → number ≤ length (given_to x.s.config spri x.chain)
    → HasBlock x (own_number x spri number)
