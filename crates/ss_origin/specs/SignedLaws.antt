-- Why each message that a chain was given is signed: a validly signed block has its hash.
use Rattle.std.specs.Prelude.{◌≡◌, ℕ, ◌+◌, ◌<◌, true, List, ◌∷◌, ◌++◌, length, Option, Some}
use Rattle.std.specs.List.{Contains}
use Rattle.ss_message.specs.Stamp.{Moment}
use Rattle.ss_payload.specs.Payload.{payload_text}
use Rattle.ss_block.specs.declared.hash.Hash.{Hash}
use Rattle.ss_block.specs.declared.reading.Reading.TheVariants as readings
use Rattle.ss_block.specs.Block as block
use Rattle.ss_block.specs.Hashes.{hash_of}
use Rattle.ss_block.specs.Reading.{reading}
use Rattle.ss_block.specs.Session.{session}
use Rattle.ss_block.specs.Signed.{signed}
use Rattle.ss_block.specs.Writing.{head_session}
use Rattle.ss_origin.specs.declared.config.Config.{Config}
use Rattle.ss_origin.specs.Groups.{group_of}
use Rattle.ss_origin.specs.Calls.{Submit, Flush, spri_in, messages_of, pending_of}
use Rattle.ss_origin.specs.Setting.{Setting}
use Rattle.ss_origin.specs.Chain.{Turn, calls_of, IsChain, given_to}

-- The number, in its group, of a message that an originator was given after these turns of its own and these
-- originators: one more than how many messages they were given for the group.
abbrev pub number_behind : Config → List (List Turn) → List Turn → List ℕ → ℕ
number_behind c older earlier message = 1 + length (given_to c (spri_in c.grouping message) (earlier ∷ older))

-- More messages of its group are pending at the end of its originator than came after it. Those that are pending are
-- the last ones, so it is one of them.
abbrev pub IsPending : Config → List Turn → Turn → List Turn → List ℕ → Type 0
IsPending c later t earlier message =
    let spri = spri_in c.grouping message in
    length (messages_of c.grouping spri (calls_of later)) < length (pending_of c spri (calls_of (later ++ t ∷ earlier)))

-- One of the turns sent a block message, which is read as a signature block of the session: with the configuration's
-- HOSTNAME, APP-NAME, PROCID, RSID and VER, for the message's group. Its signature is valid for what is signed of it.
-- Its hash for the number is that of the message.
pub record IsSigned (s : Setting) (turns : List Turn) (message : List ℕ) (number : ℕ) : Type 0 where
  pub turn : Turn
  pub of_turns : Contains turns turn
  pub text : List ℕ
  pub sent : Contains turn.emitted text
  pub block : block.Signature
  pub read : reading text ≡ readings.Signature block
  pub session : session text ≡ Some (head_session s.config.head s.config.rsid)
  pub alg : block.alg ≡ s.config.alg
  pub rsid : block.rsid ≡ s.config.rsid
  pub group : block.group ≡ group_of s.config.grouping (spri_in s.config.grouping message)
  pub octets : List ℕ
  pub signed : signed text ≡ Some octets
  pub valid : s.valid (payload_text s.payload) octets block.signature ≡ true
  pub before : List Hash
  pub behind : List Hash
  pub hashes : block.hashes ≡ before ++ hash_of s.config.alg message ∷ behind
  pub number_is : block.first + length before ≡ number

-- Each message that an originator of a chain was given, and that isn't pending at its end, is signed under its number.
abbrev pub MessagesAreSigned : Type 0
MessagesAreSigned =
    (s : Setting) (newer older : List (List Turn)) (later earlier : List Turn) (t : Turn) (message : List ℕ)
    (stamp : Option Moment)
    → IsChain s (newer ++ (later ++ t ∷ earlier) ∷ older) → t.call ≡ Submit message stamp
    → ¬ IsPending s.config later t earlier message
    → IsSigned s (later ++ t ∷ earlier) message (number_behind s.config older earlier message)

-- A message after which a flush was accepted isn't pending, whatever came after the flush.
abbrev pub FlushedMessagesAreNotPending : Type 0
FlushedMessagesAreNotPending =
    (c : Config) (newer between earlier : List Turn) (flush t : Turn) (message : List ℕ) (stamp : Option Moment)
    → flush.call ≡ Flush stamp → ¬ IsPending c (newer ++ flush ∷ between) t earlier message
