-- What holds where everything that originators sent is in the log, and nothing else.
use Rattle.std.specs.Prelude.{◌≡◌, ℕ, ◌<◌, ◌≤◌, ◌&&◌, Bool, true, List, [], length, count_by, Contains}
use Rattle.ss_block.specs.declared.block.Group.{Group}
use Rattle.ss_block.specs.declared.session.Session.{Session}
use Rattle.ss_origin.specs.Chain.{given_to}
use Rattle.ss_review.specs.declared.keep.message.NormalMessage.{NormalMessage}
use Rattle.ss_review.specs.keep.BlockMessage.{BlockMessage}
use Rattle.ss_review.specs.keep.Notes.{note, notes}
use Rattle.ss_review.specs.keep.Contents.{blocks, spoilts}
use Rattle.ss_review.specs.sessions.Verified.{is_verified}
use Rattle.ss_review.specs.announced.Announced.{Key, keys}
use Rattle.ss_review.specs.assign.Assigned.{is_taken}
use Rattle.ss_review.specs.report.Entries.{entry_of}
use Rattle.ss_review.specs.report.Verdict.{is_listed}
use Rattle.ss_review.specs.announced.Announcing.{IsAnnounced}
use Rattle.ss_review.specs.report.Meaning.{IsHole}
use Rattle.ss_review.specs.deliveries.Delivery.{own_session, is_normal, submitted_to, HasBegun, HasPayload}
use Rattle.ss_review.specs.deliveries.Delivery.{NothingPending, IsWholeDelivery}
use Rattle.ss_review.specs.deliveries.Delivered.{own_number}
use Rattle.ss_review.specs.deliveries.DeliveryLaws.{Case, IsCase, says, normals_in, rows_in, HashesTellPairs}

-- the premises under which a report is clean
pub record IsWhole (x : Case) : Type 0 where
  pub case : IsCase x
  pub pairs : HashesTellPairs x
  pub begun : HasBegun x.chain
  pub complete : NothingPending x.s.config x.chain
  pub delivered : IsWholeDelivery x.chain x.log

-- the whole payload arrived
abbrev pub PayloadsArrive : Type 0
PayloadsArrive = (x : Case) → IsWhole x → HasPayload x.chain x.log

-- each block is of the originators' session, and verified
abbrev pub BlocksAreVerified : Type 0
BlocksAreVerified = (x : Case) → IsWhole x → (b : BlockMessage) → Contains (blocks (notes x.log)) b
    → (b.session ≡ own_session x.s) × (is_verified (says x) (blocks (notes x.log)) b ≡ true)

abbrev pub NothingIsSpoilt : Type 0
NothingIsSpoilt = (x : Case) → IsWhole x → spoilts (notes x.log) ≡ []

-- of the messages in the log that have no block as many pass a test as of those that the originators were given
abbrev pub MessagesAreStored : Type 0
MessagesAreStored = (x : Case) → IsWhole x → (test : List ℕ → Bool)
    → count_by (λ m. is_normal (note m) && test m) x.log ≡ count_by test (submitted_to x.chain)

-- each number of a message is announced
abbrev pub NumbersAreAnnounced : Type 0
NumbersAreAnnounced = (x : Case) → IsWhole x
    → (spri number : ℕ) → spri < 192 → 1 ≤ number → number ≤ length (given_to x.s.config spri x.chain)
    → Contains (keys (rows_in x)) (own_number x spri number)

abbrev pub GroupsHaveNoHole : Type 0
GroupsHaveNoHole = (x : Case) → IsWhole x → (s : Session) (g : Group) (first last : ℕ)
    → let is_announced = λ (n : ℕ).
    IsAnnounced (says x) (blocks (notes x.log)) (record { session = s; group = g; number = n }) in
    ¬ IsHole is_announced first last

-- each announced number has a message
abbrev pub NumbersAreListed : Type 0
NumbersAreListed = (x : Case) → IsWhole x → (k : Key) → Contains (keys (rows_in x)) k
    → is_listed (entry_of (normals_in x) (rows_in x) k) ≡ true

-- and each message without a block a number
abbrev pub MessagesAreListed : Type 0
MessagesAreListed = (x : Case) → IsWhole x → (m : NormalMessage) → Contains (normals_in x) m
    → is_taken (normals_in x) (rows_in x) m.place ≡ true
