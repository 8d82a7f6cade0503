-- Which hashes the verified signature blocks announce, and for which message numbers (RFC 5848, section 4.2).
use Rattle.std.specs.Prelude.{ℕ, nat_lt, Bool, List, [], length, map, filter, flat_map}
use Rattle.std.specs.List.{enumerate_from}
use Rattle.std.specs.declared.cmp.Ordering.{Ordering}
use Rattle.std.specs.Ordering.{nat_cmp, ordering_then, is_eq}
use Rattle.ss_block.specs.declared.hash.Hash.{Hash}
use Rattle.ss_block.specs.declared.block.Group.{Group}
use Rattle.ss_block.specs.declared.session.Session.{Session}
use Rattle.ss_review.specs.Ordered.{in_order}
use Rattle.ss_review.specs.keep.BlockMessage.{BlockMessage, BlockContent, Hashes, Fragment}
use Rattle.ss_block.specs.Order.{session_cmp, group_cmp, hash_cmp}
use Rattle.ss_review.specs.sessions.Verified.{Answers, is_verified}

-- a message number in its group and session
pub record Key : Type 0 where
  pub session : Session
  pub group : Group
  pub number : ℕ

-- a hash, which has its algorithm with it, announced for a number
pub record Row : Type 0 where
  pub key : Key
  pub hash : Hash

-- by session, SG, SPRI and number
abbrev pub key_cmp : Key → Key → Ordering
key_cmp a b =
    ordering_then (session_cmp a.session b.session)
    (ordering_then (group_cmp a.group b.group) (nat_cmp a.number b.number))

abbrev pub same_key : Key → Key → Bool
same_key a b = is_eq (key_cmp a b)

abbrev pub row_cmp : Row → Row → Ordering
row_cmp a b = ordering_then (key_cmp a.key b.key) (hash_cmp a.hash b.hash)

-- a block's hashes, the first under its first number, each other under the next
abbrev pub rows_said : Session → BlockContent → List Row
rows_said s (Fragment c) = []
rows_said s (Hashes b) =
    map (λ n.
    record {
      key = record { session = s; group = b.group; number = n.0 };
      hash = n.1;
    }) (enumerate_from b.first b.hashes)

-- all that is announced, each once
unfoldable pub rows : Answers → List BlockMessage → List Row
rows says bs = in_order row_cmp (flat_map (λ b. rows_said b.session b.said) (filter (is_verified says bs) bs))

-- the keys for which something is announced, each once
unfoldable pub keys : List Row → List Key
keys rs = in_order key_cmp (map (λ r. r.key) rs)

-- what is announced for a key
abbrev pub hashes_for : List Row → Key → List Hash
hashes_for rs k = map (λ r. r.hash) (filter (λ r. same_key r.key k) rs)

-- two hashes are announced for the key, which differ, because each stands there once
abbrev pub is_disputed_key : List Row → Key → Bool
is_disputed_key rs k = nat_lt 1 (length (hashes_for rs k))
