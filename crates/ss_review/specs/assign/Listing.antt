-- What it takes for a message to be listed under a number, by membership and counts.
use Rattle.std.specs.Prelude.{◌≡◌, ◌↔◌, ℕ, ◌<◌, ◌≤◌, true, List, length, Contains}
use Rattle.std.specs.List.Sorted.{IsStrictlySortedBy}
use Rattle.std.specs.declared.cmp.Ordering.TheVariants.{Less}
use Rattle.std.specs.Ordering.{nat_cmp}
use Rattle.ss_block.specs.declared.hash.Hash.{Hash}
use Rattle.ss_block.specs.declared.hash.HashPair.{HashPair}
use Rattle.ss_review.specs.declared.keep.message.NormalMessage.{NormalMessage}
use Rattle.ss_review.specs.keep.Contents.{Contents}
use Rattle.ss_review.specs.sessions.Verified.{Answers}
use Rattle.ss_review.specs.announced.Announced.{Key, key_cmp}
use Rattle.ss_review.specs.assign.Assigned.{has_hash}
use Rattle.ss_review.specs.announced.Announcing.{Announces, IsDisputedKey}

-- the first message without a block that has the hash
pub record IsBearer (ms : List NormalMessage) (h : Hash) (bearer : NormalMessage) : Type 0 where
  pub stored : Contains ms bearer
  pub has : has_hash h bearer.pair ≡ true
  pub first : (m : NormalMessage) → Contains ms m → has_hash h m.pair ≡ true → bearer.place ≤ m.place

-- the key isn't disputed, and these are the hashes of the bearer of what is announced for it
pub record Wants (says : Answers) (log : Contents) (k : Key) (p : HashPair) : Type 0 where
  pub undisputed : ¬ IsDisputedKey says log.blocks k
  pub hash : Hash
  pub announced : Announces says log.blocks k hash
  pub bearer : NormalMessage
  pub is_bearer : IsBearer log.normal hash bearer
  pub pair_is : bearer.pair ≡ p

-- a message without a block has these hashes, and stands before the place
abbrev pub StandsBefore : Contents → HashPair → ℕ → ℕ → Type 0
StandsBefore log p place before =
    (before < place) × ((m : NormalMessage) × Contains log.normal m × (m.place ≡ before) × (m.pair ≡ p))

-- The key wants the hashes of the message at the place, and as many smaller keys want them as messages with them stand
-- before it.
pub record IsDue (says : Answers) (log : Contents) (k : Key) (place : ℕ) : Type 0 where
  pub message : NormalMessage
  pub stored : Contains log.normal message
  pub place_is : message.place ≡ place
  pub wants : Wants says log k message.pair
  pub smaller : List Key
  pub smaller_rise : IsStrictlySortedBy key_cmp smaller
  pub smaller_are : (j : Key) → Contains smaller j ↔ ((key_cmp j k ≡ Less) × Wants says log j message.pair)
  pub before : List ℕ
  pub before_rise : IsStrictlySortedBy nat_cmp before
  pub before_are : (p : ℕ) → Contains before p ↔ StandsBefore log message.pair place p
  pub as_many : length smaller ≡ length before
