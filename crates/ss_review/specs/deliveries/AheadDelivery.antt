-- What a review reports about a log that delivers from originators of one session, where counters may have been saved
-- ahead of what was sent.
use Rattle.std.specs.Prelude.{◌≡◌, ◌↔◌, ◌⊎◌, ℕ, ◌<◌, ◌≤◌, true, false, List, ◌∷◌, ◌++◌, map, slice_get, Contains, Some}
use Rattle.ss_payload.specs.Payload.{payload_text}
use Rattle.ss_block.specs.declared.hash.Hash.{Hash}
use Rattle.ss_block.specs.Hashes.{hash_of}
use Rattle.ss_origin.specs.declared.config.Config.{Config}
use Rattle.ss_origin.specs.Groups.{group_of}
use Rattle.ss_origin.specs.Counting.{number_in}
use Rattle.ss_origin.specs.Calls.{spri_in}
use Rattle.ss_origin.specs.Chain.{Turn, emitted_by}
use Rattle.ss_origin.specs.Ahead.{Life, ended_with, IsChainAhead, lives_of}
use Rattle.ss_origin.specs.AheadLaws.{IsGiven, number_given}
use Rattle.ss_review.specs.declared.counted.counter.Counter.{Counter}
use Rattle.ss_review.specs.declared.report.entry.Why.TheVariants as whys
use Rattle.ss_review.specs.keep.Notes.{note, notes}
use Rattle.ss_review.specs.keep.Contents.{blocks}
use Rattle.ss_review.specs.announced.Announced.{Key}
use Rattle.ss_review.specs.announced.Announcing.{Announces}
use Rattle.ss_review.specs.report.Meaning.{IsListed, IsGap, IsTold}
use Rattle.ss_review.specs.deliveries.Delivery.{own_session, is_normal, is_spoilt, Delivers, HasPayload}
use Rattle.ss_review.specs.deliveries.Delivered.{own_number}
use Rattle.ss_review.specs.deliveries.DeliveryLaws.{Case, says, AcceptsSent, IsCase, report_in, IsListedAsJoined}
use Rattle.ss_review.specs.deliveries.DeliveryLaws.{HasBlock}
use Rattle.ss_review.specs.counted.Kept.{kept_number}
use Rattle.ss_review.specs.counted.KeptLaws.{shortfalls_of, IsInTail, IsInHole}

abbrev pub turns_in : List Life → List (List Turn)
turns_in lives = map (λ l. l.turns) lives

-- The turns of the case are those of originators of which each goes on from the last counters of the one before, or
-- from greater ones. What else is asked is what is asked of an exact chain.
pub record IsCaseAhead (x : Case) (lives : List Life) : Type 0 where
  pub chain : IsChainAhead x.s lives
  pub turns : x.chain ≡ turns_in lives
  pub delivers : Delivers x.s x.chain x.log
  pub trusts : (says x).trusted (payload_text x.s.payload) ≡ true
  pub accepts : AcceptsSent x

-- A case whose originators go on from exactly the last counters is one of originators that go on ahead.
abbrev pub CasesGoOnAhead : Type 0
CasesGoOnAhead = (x : Case) → IsCase x → IsCaseAhead x (lives_of x.s.config x.chain)

-- ---- what is not wrong

-- no message that was sent is spoilt, and no number of the session is a gap for a dispute
abbrev pub NothingAheadIsDisputed : Type 0
NothingAheadIsDisputed = (x : Case) (lives : List Life) → IsCaseAhead x lives
    → ((m : List ℕ) → Contains (emitted_by x.chain) m → is_spoilt (note m) ≡ false)
    × ((k : Key) → k.session ≡ own_session x.s → ¬ IsGap (report_in x) k whys.Disputed)

-- ---- joined and announced

-- the session is joined exactly where `begin` was accepted and each fragment of the payload has a copy in the log
abbrev pub JoinedAheadByFragments : Type 0
JoinedAheadByFragments = (x : Case) (lives : List Life) → IsCaseAhead x lives
    → IsListedAsJoined x ↔ HasPayload x.chain x.log

-- an originator was given the message under this number of this group
pub record HasNumber (c : Config) (lives : List Life) (k : Key) (message : List ℕ) : Type 0 where
  pub given : IsGiven lives message
  pub number : number_given c given ≡ k.number
  pub group : group_of c.grouping (spri_in c.grouping message) ≡ k.group

-- verified blocks announce the hash of the message that was given the number, and no other
pub record HasItsHashAhead (x : Case) (lives : List Life) (k : Key) : Type 0 where
  pub message : List ℕ
  pub numbered : HasNumber x.s.config lives k message
  pub announced : Announces (says x) (blocks (notes x.log)) k (hash_of x.s.config.alg message)
  pub no_other : (h : Hash) → Announces (says x) (blocks (notes x.log)) k h → h ≡ hash_of x.s.config.alg message

-- A number is listed or a gap exactly where the session is joined and a block with a hash for it is in the log. It is
-- then announced with the hash of the message that was given this number, and with no other.
abbrev pub AnnouncedAheadByBlocks : Type 0
AnnouncedAheadByBlocks = (x : Case) (lives : List Life) → IsCaseAhead x lives → (k : Key) → k.session ≡ own_session x.s
    → (IsTold (report_in x) k ↔ (IsListedAsJoined x × HasBlock x k))
    × (IsTold (report_in x) k → HasItsHashAhead x lives k)

-- ---- listed

-- An originator was given a message under the number, and the message that is stored at the place has its hash.
pub record HasHashOfNumber (x : Case) (lives : List Life) (k : Key) (place : ℕ) : Type 0 where
  pub message : List ℕ
  pub numbered : HasNumber x.s.config lives k message
  pub stored : List ℕ
  pub stored_is : slice_get x.log place ≡ Some stored
  pub no_block : is_normal (note stored) ≡ true
  pub same_hash : hash_of x.s.config.alg stored ≡ hash_of x.s.config.alg message

-- What is listed under a number of the session has the hash of the message that was given this number.
abbrev pub ListedAheadHaveTheirHash : Type 0
ListedAheadHaveTheirHash = (x : Case) (lives : List Life) → IsCaseAhead x lives
    → (k : Key) (place : ℕ) → k.session ≡ own_session x.s → IsListed (report_in x) k place
    → HasHashOfNumber x lives k place

-- ---- numbers that are left out

-- The number of a group is left out between the last counters of an originator and those with which the next one began.
pub record IsSkipped (c : Config) (lives : List Life) (spri number : ℕ) : Type 0 where
  pub newer : List Life
  pub next : Life
  pub last : Life
  pub older : List Life
  pub lives_are : lives ≡ newer ++ next ∷ last ∷ older
  pub small : spri < 192
  pub least : number_in (ended_with c last).groups spri ≤ number
  pub below : number < number_in next.start.counters.groups spri

-- A number that is left out is neither listed nor a gap. It is in a hole where a greater number of its group is listed
-- or a gap.
abbrev pub SkippedNumbersAreInHoles : Type 0
SkippedNumbersAreInHoles = (x : Case) (lives : List Life) → IsCaseAhead x lives
    → (spri number : ℕ) → IsSkipped x.s.config lives spri number
    → (¬ IsTold (report_in x) (own_number x spri number))
    × ((greater : ℕ) → number < greater → IsTold (report_in x) (own_number x spri greater)
    → IsInHole (report_in x) (own_number x spri number))

-- Below kept counters of its group it is in a hole or in a tail.
abbrev pub SkippedNumbersAreMissing : Type 0
SkippedNumbersAreMissing = (x : Case) (lives : List Life) → IsCaseAhead x lives
    → (spri number : ℕ) → IsSkipped x.s.config lives spri number
    → let k = own_number x spri number in
    (cs : List Counter) → number < kept_number cs k.session k.group
    → IsInHole (report_in x) k ⊎ IsInTail (shortfalls_of (says x) x.log cs) k
