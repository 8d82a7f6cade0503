-- What the fragments of a payload state together (RFC 5848, section 5.3.2). A fragment states how many octets the
-- payload has (TPBL), and octets of it with their indexes, which begin at 1 (INDEX and FRAG).
use Rattle.std.specs.Prelude.{◌≡◌, ◌≢◌, ℕ, ◌+◌, ◌<◌, ◌≤◌, ◌⊎◌, true, List, [], ◌∷◌, length, slice_index}
use Rattle.std.specs.declared.cmp.Ordering.{Ordering}
use Rattle.std.specs.Ordering.{nat_cmp, ordering_then}
use Rattle.std.specs.FinSet as set
use Rattle.ss_payload.specs.declared.joiner.JoinState.{JoinState}
use Rattle.ss_payload.specs.declared.joiner.JoinState.TheVariants.{Incomplete, Disputed, Whole}

-- an octet and its index, in the order of indexes
abbrev pub placed_cmp : ℕ × ℕ → ℕ × ℕ → Ordering
placed_cmp p q = ordering_then (nat_cmp p.0 q.0) (nat_cmp p.1 q.1)

-- the totals that were stated, and the octets, each as a pair of an index and the octet there
pub record Stated : Type 0 where
  pub totals : set.FinSet nat_cmp
  pub octets : set.FinSet placed_cmp

unfoldable pub nothing_stated : Stated
nothing_stated = record { totals = set.empty; octets = set.empty }

-- the octets of a fragment with their indexes, the first of which is `index`
abbrev pub placed : ℕ → List ℕ → List (ℕ × ℕ)
placed index [] = []
placed index (octet ∷ octets) = (index, octet) ∷ placed (index + 1) octets

-- what is stated once a fragment is there too
unfoldable pub with_fragment : Stated → ℕ → ℕ → List ℕ → Stated
with_fragment stated total index octets = record {
  totals = set.insert stated.totals total;
  octets = set.union stated.octets (set.from_list (placed index octets));
}

abbrev pub HasTotal : Stated → ℕ → Type 0
HasTotal stated total = set.contains stated.totals total ≡ true

abbrev pub HasOctet : Stated → ℕ → ℕ → Type 0
HasOctet stated index octet = set.contains stated.octets (index, octet) ≡ true

-- another total than that of a fragment was stated, or another octet at one of its indexes
unfoldable pub DisagreesWith : Stated → ℕ → ℕ → List ℕ → Type 0
DisagreesWith stated total index octets =
    ((other : ℕ) × HasTotal stated other × (other ≢ total))
    ⊎ ((j : ℕ) × (other : ℕ) × (j < length octets) × HasOctet stated (index + j) other × (other ≢ slice_index octets j))

-- two totals were stated, or two octets at one index
unfoldable pub IsDisputed : Stated → Type 0
IsDisputed stated =
    ((total : ℕ) × (other : ℕ) × HasTotal stated total × HasTotal stated other × (total ≢ other))
    ⊎ ((index : ℕ) × (octet : ℕ) × (other : ℕ) × HasOctet stated index octet × HasOctet stated index other
    × (octet ≢ other))

-- no total was stated, or no octet at an index from 1 to the total
unfoldable pub HasGap : Stated → Type 0
HasGap stated =
    ((total : ℕ) → ¬ HasTotal stated total)
    ⊎ ((total : ℕ) × (index : ℕ) × HasTotal stated total × (1 ≤ index) × (index ≤ total)
    × ((octet : ℕ) → ¬ HasOctet stated index octet))

-- the state of what is stated: disputed, else incomplete where there is a gap, else whole
abbrev pub HasState : Stated → JoinState → Type 0
HasState stated Disputed = IsDisputed stated
HasState stated Incomplete = (¬ IsDisputed stated) × HasGap stated
HasState stated Whole = (¬ IsDisputed stated) × (¬ HasGap stated)

-- the payload: as many octets as the total, and after `i` others the one that was stated at the index `i + 1`
pub record IsPayload (stated : Stated) (text : List ℕ) : Type 0 where
  pub total : HasTotal stated (length text)
  pub octets : (i : ℕ) → i < length text → HasOctet stated (i + 1) (slice_index text i)
