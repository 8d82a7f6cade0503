-- What a review by given payloads reports of a session whose blocks nobody forged, whatever strangers put into the log.
use Rattle.std.specs.Prelude.{◌≡◌, ◌⊎◌, ℕ, ◌<◌, ◌≤◌, true, List, Contains}
use Rattle.ss_block.specs.declared.hash.Hash.{Hash}
use Rattle.ss_block.specs.Hashes.{hash_of}
use Rattle.ss_payload.specs.Payload.{payload_text}
use Rattle.ss_origin.specs.Ahead.{Life}
use Rattle.ss_review.specs.declared.counted.counter.Counter.{Counter}
use Rattle.ss_review.specs.declared.report.entry.Why.TheVariants as whys
use Rattle.ss_review.specs.announced.Announced.{Key}
use Rattle.ss_review.specs.announced.Announcing.{Announces}
use Rattle.ss_review.specs.counted.Kept.{kept_number}
use Rattle.ss_review.specs.counted.KeptLaws.{IsInTail, IsInHole, IsLost}
use Rattle.ss_review.specs.deliveries.Delivery.{own_session, HasPayload}
use Rattle.ss_review.specs.deliveries.DeliveryLaws.{Case, says, AcceptsSent, HasBlock}
use Rattle.ss_review.specs.deliveries.AheadDelivery.{HasNumber, HasHashOfNumber}
use Rattle.ss_review.specs.keep.Contents.{blocks}
use Rattle.ss_review.specs.keep.Notes.{notes}
use Rattle.ss_review.specs.report.Meaning.{IsListed, IsGap, IsTold}
use Rattle.ss_review.specs.sessions.Sessions.{of_session}
use Rattle.ss_review.specs.pinned.Claimants.{IsClaimant, IsOnlyClaimant}
use Rattle.ss_review.specs.pinned.Stands.{pinned_shortfalls}
use Rattle.ss_laws.specs.ahead.Reported.{AreAhead}
use Rattle.ss_laws.specs.strangers.Unforged.{IsUnforged, IsJoinedUnderNoOther, blocks_in, pinned_in}

-- ---- when the session is joined

-- If the originators' payload claims the session, and no other given one does, it is joined under no other.
abbrev pub OnlyClaimantsJoin : Type 0
OnlyClaimantsJoin = (x : Case) (ps : List (List ℕ))
    → IsOnlyClaimant (says x) ps (of_session (blocks (notes x.log)) (own_session x.s)) (payload_text x.s.payload)
    → IsJoinedUnderNoOther x ps

-- The originators' payload claims the session if it is given and trusted, each fragment of it arrived, and their blocks
-- are accepted.
abbrev pub ArrivedPayloadsClaim : Type 0
ArrivedPayloadsClaim = (x : Case) (ps : List (List ℕ)) (lives : List Life)
    → AreAhead x lives → HasPayload x.chain x.log → AcceptsSent x
    → (says x).trusted (payload_text x.s.payload) ≡ true → Contains ps (payload_text x.s.payload)
    → IsClaimant (says x) ps (of_session (blocks (notes x.log)) (own_session x.s)) (payload_text x.s.payload)

-- A number is listed or a gap if a block that the originators sent and that covers it arrived, their blocks are accepted,
-- and their payload is the only one that claims the session.
abbrev pub ArrivedAreAnnounced : Type 0
ArrivedAreAnnounced = (x : Case) (ps : List (List ℕ)) (lives : List Life) → AreAhead x lives → AcceptsSent x
    → IsOnlyClaimant (says x) ps (of_session (blocks (notes x.log)) (own_session x.s)) (payload_text x.s.payload)
    → (k : Key) → k.session ≡ own_session x.s → HasBlock x k → IsTold (pinned_in x ps) k

-- ---- what is announced

-- verified blocks announce the hash of the message that was given the number, and no other
pub record HasItsHash (x : Case) (ps : List (List ℕ)) (lives : List Life) (k : Key) : Type 0 where
  pub message : List ℕ
  pub numbered : HasNumber x.s.config lives k message
  pub announced : Announces (says x) (blocks_in x ps) k (hash_of x.s.config.alg message)
  pub no_other : (h : Hash) → Announces (says x) (blocks_in x ps) k h → h ≡ hash_of x.s.config.alg message

-- A number that is listed or a gap is one that a message got. It is announced with the hash of this message, and with no
-- other.
abbrev pub AnnouncedAreGiven : Type 0
AnnouncedAreGiven = (x : Case) (ps : List (List ℕ)) (lives : List Life) → AreAhead x lives → IsUnforged x ps
    → (k : Key) → k.session ≡ own_session x.s → IsTold (pinned_in x ps) k → HasItsHash x ps lives k

-- no number of the session is a gap for a dispute
abbrev pub NothingIsDisputed : Type 0
NothingIsDisputed = (x : Case) (ps : List (List ℕ)) (lives : List Life) → AreAhead x lives → IsUnforged x ps
    → (k : Key) → k.session ≡ own_session x.s → ¬ IsGap (pinned_in x ps) k whys.Disputed

-- What is listed under a number of the session has the hash of the message that got this number.
abbrev pub ListedHaveTheirHash : Type 0
ListedHaveTheirHash = (x : Case) (ps : List (List ℕ)) (lives : List Life) → AreAhead x lives → IsUnforged x ps
    → (k : Key) (place : ℕ) → k.session ≡ own_session x.s → IsListed (pinned_in x ps) k place
    → HasHashOfNumber x lives k place

-- ---- what is lost

-- the number is reported: as a gap that is lost, in a hole or in a tail
abbrev pub IsReported : Case → List (List ℕ) → List Counter → Key → Type 0
IsReported x ps cs k =
    IsGap (pinned_in x ps) k whys.Lost
    ⊎ (IsInHole (pinned_in x ps) k ⊎ IsInTail (pinned_shortfalls (says x) ps x.log cs) k)

-- If counters go past the number that a lost message got, it is reported.
abbrev pub LostAreReported : Type 0
LostAreReported = (x : Case) (ps : List (List ℕ)) (lives : List Life) → AreAhead x lives → IsUnforged x ps
    → (k : Key) (m : List ℕ) → k.session ≡ own_session x.s → HasNumber x.s.config lives k m → IsLost x m
    → (cs : List Counter) → 1 ≤ k.number → k.number < kept_number cs k.session k.group → IsReported x ps cs k
