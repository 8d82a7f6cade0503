-- The hashes of stored messages in order, so that the bearers of announced hashes are found in one pass.
use Rattle.std.specs.Prelude.{◌≡◌, ◌≢◌, ◌⊎◌, ℕ, ◌<◌, ◌≤◌, Bool, true, false, List, [], ◌∷◌, length, map, take, Contains}
use Rattle.std.specs.Prelude.{slice_get}
use Rattle.std.specs.Prelude.{slice_index, slice_index_or, replicate, get_or, count_by, nat_lt, Option, Some, None}
use Rattle.std.specs.Prelude.{if◌then◌else◌}
use Rattle.std.specs.Int.{w32, from_be_bytes}
use Rattle.std.specs.List.{list_any}
use Rattle.std.specs.List.Sorted.{IsStrictlySortedBy}
use Rattle.std.specs.declared.cmp.Ordering.{Ordering}
use Rattle.std.specs.declared.cmp.Ordering.TheVariants.{Less}
use Rattle.std.specs.Ordering.{nat_cmp, ordering_then, is_eq}
use Rattle.ss_block.specs.declared.hash.Alg.{Alg}
use Rattle.ss_block.specs.declared.hash.Alg.TheVariants as algs
use Rattle.ss_block.specs.declared.hash.Hash.{Hash}
use Rattle.ss_block.specs.declared.hash.HashPair.{HashPair}
use Rattle.ss_block.specs.declared.hash.Hash.TheVariants as hashes
use Rattle.ss_block.specs.Order.{octets_cmp, hash_cmp}
use Rattle.ss_review.specs.declared.keep.message.NormalMessage.{NormalMessage}
use Rattle.ss_review.specs.declared.assign.hash_entry.HashEntry.{HashEntry}
use Rattle.ss_review.specs.declared.assign.hash_list.HashList.{HashList}
use Rattle.ss_review.specs.declared.assign.hash_start.HashStart.{HashStart}
use Rattle.ss_review.specs.declared.assign.stored_hash.StoredHash.{StoredHash}
use Rattle.ss_review.specs.declared.keep.stored_message.StoredMessage.{StoredMessage}
use Rattle.ss_review.specs.declared.assign.wanted_hash.WantedHash.{WantedHash}
use Rattle.ss_review.specs.declared.assign.counters.Counters.{Counters}
use Rattle.ss_review.specs.assign.Assigned.{has_hash}
use Rattle.ss_review.specs.assign.Assigning.{is_at}

-- ---- the hashes of stored messages

-- the hash of a message by an algorithm, beside its other hash and its place
abbrev pub stored_hash : Alg → NormalMessage → StoredHash
stored_hash algs.Sha1 m =
    record { hash = hashes.Sha1 m.pair.sha1; other = hashes.Sha256 m.pair.sha256; place = m.place }
stored_hash algs.Sha256 m =
    record { hash = hashes.Sha256 m.pair.sha256; other = hashes.Sha1 m.pair.sha1; place = m.place }

-- as the pair of a message that isn't there
abbrev pub no_hashes : HashPair
no_hashes = record { sha1 = replicate 20 0; sha256 = replicate 32 0 }

-- the hash that an entry stands for, among these pairs of hashes
abbrev pub hash_of : List HashPair → HashEntry → StoredHash
hash_of pairs e = stored_hash e.start.alg (record { place = e.place; pair = slice_index_or pairs e.pair no_hashes })

abbrev pub listed : List HashPair → List HashEntry → List StoredHash
listed pairs entries = map (hash_of pairs) entries

abbrev pub hashes_in : HashList → List StoredHash
hashes_in list = listed list.pairs.now list.entries.now

-- the first octets
abbrev pub first_octets : List ℕ → List ℕ
first_octets octets = slice_index octets 0 ∷ slice_index octets 1 ∷ slice_index octets 2 ∷ []

abbrev pub first_octets_by : Alg → HashPair → List ℕ
first_octets_by algs.Sha1 p = first_octets p.sha1
first_octets_by algs.Sha256 p = first_octets p.sha256

-- what the hash by an algorithm begins with
abbrev pub start_by : Alg → HashPair → HashStart
start_by a p = record { alg = a; octets = first_octets_by a p }

-- what a hash begins with
abbrev pub start_of : Hash → HashStart
start_of (hashes.Sha1 octets) = record { alg = algs.Sha1; octets = first_octets octets }
start_of (hashes.Sha256 octets) = record { alg = algs.Sha256; octets = first_octets octets }

-- the entry of a message that is stored so, by an algorithm
abbrev pub entry_of : List HashPair → Alg → StoredMessage → HashEntry
entry_of pairs a s =
    record { pair = s.pair; place = s.place; start = start_by a (slice_index_or pairs s.pair no_hashes) }

-- the entry begins as the hash that it stands for
abbrev pub BeginsAsItsHash : List HashPair → HashEntry → Type 0
BeginsAsItsHash pairs e = e.start ≡ start_by e.start.alg (slice_index_or pairs e.pair no_hashes)

abbrev pub alg_place : Alg → ℕ
alg_place algs.Sha1 = 0
alg_place algs.Sha256 = 1

-- by the algorithms, then the first octets
abbrev pub start_cmp : HashStart → HashStart → Ordering
start_cmp a b = ordering_then (nat_cmp (alg_place a.alg) (alg_place b.alg)) (octets_cmp a.octets b.octets)

-- The number has the place of the algorithm and the first octets as its four octets, the greatest first.
pub record IsNumberOf (s : HashStart) (n : ℕ) : Type 0 where
  pub value : n ≡ from_be_bytes w32 (alg_place s.alg ∷ s.octets)
  pub three : length s.octets ≡ 3
  pub first : slice_index s.octets 0 < 256
  pub second : slice_index s.octets 1 < 256
  pub third : slice_index s.octets 2 < 256

abbrev pub alg_of : Hash → Alg
alg_of (hashes.Sha1 octets) = algs.Sha1
alg_of (hashes.Sha256 octets) = algs.Sha256

-- the hash is there, and by this algorithm
abbrev pub is_by : Alg → Option Hash → Bool
is_by alg None = false
is_by algs.Sha1 (Some (hashes.Sha1 octets)) = true
is_by algs.Sha1 (Some (hashes.Sha256 octets)) = false
is_by algs.Sha256 (Some (hashes.Sha1 octets)) = false
is_by algs.Sha256 (Some (hashes.Sha256 octets)) = true

-- the hashes of these messages by an algorithm, if one of those that are announced is by it
abbrev pub needed_hashes : Alg → List (Option Hash) → List NormalMessage → List StoredHash
needed_hashes alg announced ms = if list_any (is_by alg) announced then map (stored_hash alg) ms else []

-- their entries, if one of those that are announced is by the algorithm
abbrev pub needed_entries : List HashPair → Alg → List (Option Hash) → List StoredMessage → List HashEntry
needed_entries pairs alg announced stored = if list_any (is_by alg) announced then map (entry_of pairs alg) stored
    else []

-- by the hashes, then the other ones, then the places
abbrev pub stored_cmp : StoredHash → StoredHash → Ordering
stored_cmp a b =
    ordering_then (hash_cmp a.hash b.hash) (ordering_then (hash_cmp a.other b.other) (nat_cmp a.place b.place))

-- where the first octets are equal, by the whole hashes
abbrev pub entry_cmp : List HashPair → HashEntry → HashEntry → Ordering
entry_cmp pairs a b = ordering_then (start_cmp a.start b.start) (stored_cmp (hash_of pairs a) (hash_of pairs b))

-- the hashes of these messages, in order, as far as they are needed to find what is announced
pub record Lists (list : List StoredHash) (ms : List NormalMessage) (announced : List (Option Hash)) : Type 0 where
  pub rises : IsStrictlySortedBy stored_cmp list
  pub sound : (e : StoredHash) → Contains list e → (alg : Alg) × (m : NormalMessage) × Contains ms m
      × (e ≡ stored_hash alg m)
  pub complete : (h : Hash) (m : NormalMessage) → Contains announced (Some h) → Contains ms m → has_hash h m.pair ≡ true
      → Contains list (stored_hash (alg_of h) m)

-- ---- the order of a list

-- each entry begins as its hash
abbrev pub AllBegin : HashList → Type 0
AllBegin list = (e : HashEntry) → Contains list.entries.now e → BeginsAsItsHash list.pairs.now e

abbrev pub IsInOrder : HashList → Type 0
IsInOrder list = AllBegin list × IsStrictlySortedBy stored_cmp (hashes_in list)

-- how the hash of an entry stands to another: where what they begin with is equal, by the whole hashes
abbrev pub begun_cmp : List HashPair → HashEntry → Hash → Ordering
begun_cmp pairs e h = ordering_then (start_cmp e.start (start_of h)) (hash_cmp (hash_of pairs e).hash h)

-- ---- the first message that has a hash

-- where the first message that has the hash stands in the list, if there is one
abbrev pub IsBearerAt : List StoredHash → Hash → Option ℕ → Type 0
IsBearerAt list h None = (e : StoredHash) → Contains list e → e.hash ≢ h
IsBearerAt list h (Some i) =
    (e : StoredHash) × (slice_get list i ≡ Some e) × (e.hash ≡ h)
    × ((f : StoredHash) → Contains list f → f.hash ≡ h → e.place ≤ f.place)

-- the first of two is stored before the second, if there is one
abbrev pub is_earlier : Option StoredHash → Option StoredHash → Bool
is_earlier None o = true
is_earlier (Some e) None = true
is_earlier (Some e) (Some f) = nat_lt e.place f.place

-- what stands at the index has the hash
abbrev pub has_this : Option StoredHash → Hash → Bool
has_this None h = false
has_this (Some e) h = is_eq (hash_cmp e.hash h)

abbrev pub has_hash_at : List StoredHash → ℕ → Hash → Bool
has_hash_at list i h = has_this (slice_get list i) h

-- What was found is that of the hash that was asked last, if any, and all before the start is below it.
abbrev pub FoundLast : List StoredHash → ℕ → Option ℕ → Option Hash → Type 0
FoundLast list start found None = start ≡ 0
FoundLast list start found (Some h) =
    ((e : StoredHash) → Contains (take start list) e → hash_cmp e.hash h ≡ Less) × IsBearerAt list h found

-- no hash below this one was asked for last
abbrev pub IsNotBelow : Hash → Option Hash → Type 0
IsNotBelow h None = h ≡ h
IsNotBelow h (Some g) = (hash_cmp g h ≡ Less) ⊎ (g ≡ h)

-- a hash that a key is announced with, and the number of the key
pub record KeyedHash : Type 0 where
  pub hash : Hash
  pub key : ℕ

abbrev pub keyed : WantedHash → KeyedHash
keyed w = record { hash = w.hash.now; key = w.key }

-- it begins as its hash
abbrev pub BeginsAsWanted : WantedHash → Type 0
BeginsAsWanted w = w.start ≡ start_of w.hash.now

-- by the hashes, then the numbers of the keys
abbrev pub keyed_cmp : KeyedHash → KeyedHash → Ordering
keyed_cmp a b = ordering_then (hash_cmp a.hash b.hash) (nat_cmp a.key b.key)

-- where what they begin with is equal, by the whole hashes
abbrev pub wanted_cmp : WantedHash → WantedHash → Ordering
wanted_cmp a b = ordering_then (start_cmp a.start b.start) (keyed_cmp (keyed a) (keyed b))

-- the hashes that are there, in order, each with its number, from 0
pub record Wanted (ws : List KeyedHash) (hs : List (Option Hash)) : Type 0 where
  pub rises : IsStrictlySortedBy keyed_cmp ws
  pub sound : (w : KeyedHash) → Contains ws w → slice_get hs w.key ≡ Some (Some w.hash)
  pub complete : (i : ℕ) (h : Hash) → slice_get hs i ≡ Some (Some h)
      → (w : KeyedHash) × Contains ws w × (w.key ≡ i) × (w.hash ≡ h)

-- what is found for a hash that may be there
abbrev pub IsFoundFor : List StoredHash → Option Hash → Option ℕ → Type 0
IsFoundFor list None at = at ≡ None
IsFoundFor list (Some h) at = IsBearerAt list h at

-- ---- its place, or that of a later message with the same hashes

abbrev pub hashes_cmp : StoredHash → StoredHash → Ordering
hashes_cmp a b = ordering_then (hash_cmp a.hash b.hash) (hash_cmp a.other b.other)

abbrev pub same_hashes : StoredHash → StoredHash → Bool
same_hashes a b = is_eq (hashes_cmp a b)

-- the place of what stands there, if it has the hashes of the first
abbrev pub place_beside : StoredHash → Option StoredHash → Option ℕ
place_beside first None = None
place_beside first (Some e) = if same_hashes e first then Some e.place else None

-- how often the message at a place was counted
abbrev pub counted_at : Counters → ℕ → ℕ
counted_at c place = get_or c.counts.items place 0

-- each bearer's place was counted as often as the bearer was wanted
abbrev pub Tallies : Counters → List (Option NormalMessage) → Type 0
Tallies c before = (place : ℕ) → counted_at c place ≡ count_by (is_at place) before
