-- What a log may hold of what the originators of one session sent: any of it, any number of times and in any order,
-- among other messages.
use Rattle.std.specs.Prelude.{◌≡◌, ◌≢◌, ℕ, Bool, true, false, List, [], ◌∷◌, Contains, Some}
use Rattle.std.specs.Str.{bytes_eq}
use Rattle.std.specs.List.{count_by, flat_map}
use Rattle.ss_block.specs.declared.session.Session.{Session}
use Rattle.ss_block.specs.Session.{session}
use Rattle.ss_block.specs.Writing.{head_session}
use Rattle.ss_origin.specs.declared.config.Config.{Config}
use Rattle.ss_origin.specs.Calls.{Call, Begin, Submit, Flush, pending_of}
use Rattle.ss_origin.specs.Setting.{Setting}
use Rattle.ss_origin.specs.Chain.{Turn, calls_of, emitted_by}
use Rattle.ss_review.specs.keep.Notes.{Note, Normal, Block, Spoilt, note}

-- the session of originators that follow one another, which have one configuration
abbrev pub own_session : Setting → Session
own_session s = head_session s.config.head s.config.rsid

abbrev pub is_normal : Note → Bool
is_normal (Normal pair) = true
is_normal (Block text) = false
is_normal (Spoilt cause) = false

abbrev pub is_spoilt : Note → Bool
is_spoilt (Normal pair) = false
is_spoilt (Block text) = false
is_spoilt (Spoilt cause) = true

-- a message that the chain sent, one without a block, a spoilt one, or a block of another session
pub data IsDelivered (s : Setting) (chain : List (List Turn)) (m : List ℕ) : Type 0 where
  sent : Contains (emitted_by chain) m → IsDelivered s chain m
  normal : is_normal (note m) ≡ true → IsDelivered s chain m
  spoilt : is_spoilt (note m) ≡ true → IsDelivered s chain m
  other : (o : Session) → session m ≡ Some o → o ≢ own_session s → IsDelivered s chain m

-- the log delivers from the chain
abbrev pub Delivers : Setting → List (List Turn) → List (List ℕ) → Type 0
Delivers s chain log = (m : List ℕ) → Contains log m → IsDelivered s chain m

-- ---- what the chain was given and sent

abbrev pub submitted_in : Call → List (List ℕ)
submitted_in (Begin stamp) = []
submitted_in (Submit message stamp) = message ∷ []
submitted_in (Flush stamp) = []

-- the messages that the chain accepted, in some order
abbrev pub submitted_to : List (List Turn) → List (List ℕ)
submitted_to chain = flat_map (λ turns. flat_map (λ t. submitted_in t.call) turns) chain

abbrev pub is_begin : Call → Bool
is_begin (Begin stamp) = true
is_begin (Submit message stamp) = false
is_begin (Flush stamp) = false

-- `begin` was accepted by an originator of the chain
pub record HasBegun (chain : List (List Turn)) : Type 0 where
  pub turns : List Turn
  pub turn : Turn
  pub of_chain : Contains chain turns
  pub of_originator : Contains turns turn
  pub begins : is_begin turn.call ≡ true

-- and each fragment of the payload is in the log
pub record HasPayload (chain : List (List Turn)) (log : List (List ℕ)) : Type 0 where
  pub begun : HasBegun chain
  pub copies : (m : List ℕ) → Contains begun.turn.emitted m → Contains log m

-- no originator of the chain ended with a message in no block
abbrev pub NothingPending : Config → List (List Turn) → Type 0
NothingPending c chain = (turns : List Turn) → Contains chain turns → (spri : ℕ)
    → pending_of c spri (calls_of turns) ≡ []

-- The log holds nothing but what the chain sent: each message as often as it was accepted, and each block message at
-- least once.
pub record IsWholeDelivery (chain : List (List Turn)) (log : List (List ℕ)) : Type 0 where
  pub sent : (m : List ℕ) → Contains log m → Contains (emitted_by chain) m
  pub messages : (m : List ℕ) → Contains (submitted_to chain) m
      → count_by (bytes_eq m) log ≡ count_by (bytes_eq m) (submitted_to chain)
  pub blocks : (m : List ℕ) → Contains (emitted_by chain) m → is_normal (note m) ≡ false → Contains log m
