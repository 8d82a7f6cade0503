-- Hashes of stored messages, each by where it is stored, in the order of what they stand for.
use Rattle.std.proofs.Common.{◌≡◌, ◌≢◌, inl, inr, ℕ, ◌<◌, ◌≤◌, Bool, true, false, cond, ◌&&◌, List, [], ◌∷◌, ◌++◌, length, get_or, map, refl, sym, ap, ◌∙◌, subst, arith}
use Rattle.std.specs.Prelude.{Option, Some, Contains, slice_get}
use Rattle.std.specs.List.{list_any, dedup}
use Rattle.std.specs.declared.cmp.Ordering.{Ordering}
use Rattle.std.specs.declared.cmp.Ordering.TheVariants.{Less, Equal, Greater}
use Rattle.std.specs.Ordering.{ordering_then, eq_by_cmp, is_eq}
use Rattle.std.specs.Str.{bytes_eq}
use Rattle.std.proofs.lemmas.Map.Text.{is_eq-slice_cmp}
use Rattle.std.specs.Cmp.{IsTotalOrder}
use Rattle.std.specs.List.Sorted.{IsPermutation, IsSorted, IsStrictlySortedBy}
use Rattle.std.proofs.lemmas.Cmp.{on_total}
use Rattle.std.proofs.lemmas.List.{map-append, length-map, get_or_default}
use Rattle.std.proofs.lemmas.Option.{slice_get_within, slice_get_past, slice_get-map, slice_get-get_or, get_or_from_slice_get}
use Rattle.std.specs.Option.{option_map}
use Rattle.ss_block.specs.declared.hash.Alg.{Alg}
use Rattle.ss_block.specs.declared.hash.Alg.TheVariants as algs
use Rattle.ss_block.specs.declared.hash.Hash.{Hash}
use Rattle.ss_block.specs.declared.hash.Hash.TheVariants as hashes
use Rattle.ss_block.specs.declared.hash.HashPair.{HashPair}
use Rattle.ss_block.specs.Order.{octets_cmp, hash_cmp}
use Rattle.ss_review.specs.declared.assign.hash_entry.HashEntry.{HashEntry}
use Rattle.ss_review.specs.declared.assign.stored_hash.StoredHash.{StoredHash}
use Rattle.ss_review.specs.declared.keep.message.NormalMessage.{NormalMessage}
use Rattle.ss_review.specs.declared.keep.stored_message.StoredMessage.{StoredMessage}
use Rattle.ss_review.specs.assign.Assigned.{has_hash}
use Rattle.ss_review.specs.keep.Stored.{no_pair, message_in, Tells}
use Rattle.ss_review.specs.assign.StoredHashes.{first_octets, start_by, start_of, BeginsAsItsHash, start_cmp, begun_cmp, entry_cmp, stored_hash, hash_of, listed, has_this, has_hash_at, IsBearerAt, entry_of, is_by, needed_hashes, needed_entries, no_hashes, stored_cmp}
use Rattle.ss_review.proofs.of_assignment.ByStarts.{both_total, kept_begin, kept_rise, kept_keep, kept_add_none}
use Rattle.ss_review.proofs.of_assignment.HashStarts.{first_then, hash_start_tells, start_cmp_total}
use Rattle.ss_review.proofs.of_assignment.NeededHashes.{stored_cmp_exact}
use Rattle.ss_review.proofs.of_lists.Searching.{has_at, map_at}
use Rattle.ss_review.proofs.of_lists.Sections.{map_agree}
use Rattle.ss_review.proofs.of_assignment.StoredRuns.{stored_cmp_total}
use Rattle.ss_octets.proofs.Members.{Has, has_from_contains, contains_from_has, has-append_cases, from_has-map}

-- ---- what an entry stands for

pub stands_at : (pairs : List HashPair) (entries : List HashEntry) (i : ℕ) (d : HashEntry) (e : StoredHash) → slice_get (listed pairs entries) i ≡ Some e → hash_of pairs (get_or entries i d) ≡ e
stands_at pairs entries i d e at =
    let within : i < length (listed pairs entries) = slice_get_within (listed pairs entries) i e at in
    sym (map_at (hash_of pairs) entries i e d (omega (arith, within, length-map entries (hash_of pairs)))) ∙ get_or_from_slice_get (listed pairs entries) i e e at

-- its place is that of the entry
place_stands : (pairs : List HashPair) (e : HashEntry) → (hash_of pairs e).place ≡ e.place
place_stands pairs e = by e.start.alg
  where
    by : (a : Alg) → (stored_hash a (record { place = e.place; pair = get_or pairs e.pair no_hashes })).place ≡ e.place
    by algs.Sha1 = refl
    by algs.Sha256 = refl

pub entry_place : (pairs : List HashPair) (entries : List HashEntry) (i : ℕ) (d : HashEntry) (e : StoredHash) → slice_get (listed pairs entries) i ≡ Some e → (get_or entries i d).place ≡ e.place
entry_place pairs entries i d e at = sym (place_stands pairs (get_or entries i d)) ∙ ap (λ (s : StoredHash). s.place) (stands_at pairs entries i d e at)

-- ---- entries in order

module _ (pairs : List HashPair) where
  -- by what they stand for
  abbrev pub by_hash : HashEntry → HashEntry → Ordering
  by_hash a b = stored_cmp (hash_of pairs a) (hash_of pairs b)

  as_begun : (e : HashEntry) → BeginsAsItsHash pairs e → e.start ≡ start_of (hash_of pairs e).hash
  as_begun e begins = begins ∙ by e.start.alg
    where
      by : (a : Alg) → start_by a (get_or pairs e.pair no_hashes) ≡ start_of (stored_hash a (record { place = e.place; pair = get_or pairs e.pair no_hashes })).hash
      by algs.Sha1 = refl
      by algs.Sha256 = refl

  -- how an entry stands to a hash, if it begins as its own
  pub begun_is : (e : HashEntry) (h : Hash) → BeginsAsItsHash pairs e → begun_cmp pairs e h ≡ hash_cmp (hash_of pairs e).hash h
  begun_is e h begins = by (start_cmp e.start (start_of h)) refl
    where
      told : (c : Ordering) → start_cmp e.start (start_of h) ≡ c → c ≢ Equal → hash_cmp (hash_of pairs e).hash h ≡ c
      told c t n = hash_start_tells (hash_of pairs e).hash h c (sym (ap (λ s. start_cmp s (start_of h)) (as_begun e begins)) ∙ t) n

      by : (c : Ordering) → start_cmp e.start (start_of h) ≡ c → ordering_then c (hash_cmp (hash_of pairs e).hash h) ≡ hash_cmp (hash_of pairs e).hash h
      by Less t = sym (told Less t (λ z. cc))
      by Equal t = refl
      by Greater t = sym (told Greater t (λ z. cc))

  -- its hash is that one if both begin alike, and one of the two hashes is it
  pub begun_has : (e : HashEntry) (h : Hash) → (is_eq (start_cmp e.start (start_of h)) && has_hash h (get_or pairs e.pair no_hashes)) ≡ is_eq (begun_cmp pairs e h)
  begun_has e h = by e.start.alg h
    where
      both : (c d : Ordering) (b : Bool) → is_eq d ≡ b → (is_eq c && b) ≡ is_eq (ordering_then c d)
      both Less d b t = refl
      both Equal d b t = sym t
      both Greater d b t = refl

      by : (a : Alg) (g : Hash)
          → (is_eq (start_cmp (record { alg = a; octets = e.start.octets }) (start_of g)) && has_hash g (get_or pairs e.pair no_hashes))
          ≡ is_eq (ordering_then (start_cmp (record { alg = a; octets = e.start.octets }) (start_of g)) (hash_cmp (stored_hash a (record { place = e.place; pair = get_or pairs e.pair no_hashes })).hash g))
      by algs.Sha1 (hashes.Sha1 o) = both (octets_cmp e.start.octets (first_octets o)) (octets_cmp (get_or pairs e.pair no_hashes).sha1 o) (bytes_eq (get_or pairs e.pair no_hashes).sha1 o) (is_eq-slice_cmp (get_or pairs e.pair no_hashes).sha1 o)
      by algs.Sha1 (hashes.Sha256 o) = refl
      by algs.Sha256 (hashes.Sha1 o) = refl
      by algs.Sha256 (hashes.Sha256 o) = both (octets_cmp e.start.octets (first_octets o)) (octets_cmp (get_or pairs e.pair no_hashes).sha256 o) (bytes_eq (get_or pairs e.pair no_hashes).sha256 o) (is_eq-slice_cmp (get_or pairs e.pair no_hashes).sha256 o)

  -- what stands at an index has a hash if the entry there has
  pub has_there : (entries : List HashEntry) (i : ℕ) (d : HashEntry) (h : Hash) → i < length entries → ((e : HashEntry) → Contains entries e → BeginsAsItsHash pairs e)
      → is_eq (begun_cmp pairs (get_or entries i d) h) ≡ has_hash_at (listed pairs entries) i h
  has_there entries i d h within begin =
      ap is_eq (begun_is (get_or entries i d) h (begin (get_or entries i d) (contains_from_has entries (get_or entries i d) (has_at entries i d within))))
      ∙ ap (λ o. has_this o h) (sym (slice_get-map (hash_of pairs) entries i ∙ ap (option_map (hash_of pairs)) (slice_get-get_or entries i d within)))

  pub has_past : (entries : List HashEntry) (i : ℕ) (h : Hash) → length entries ≤ i → false ≡ has_hash_at (listed pairs entries) i h
  has_past entries i h past = ap (λ o. has_this o h) (sym (slice_get_past (listed pairs entries) i (omega (arith, past, length-map entries (hash_of pairs)))))

  -- where a bearer stands is within the list
  pub bearer_within : (entries : List HashEntry) (h : Hash) (o : Option ℕ) → IsBearerAt (listed pairs entries) h o → (i : ℕ) → o ≡ Some i → i < length entries
  bearer_within entries h o b i e =
      let f = subst (IsBearerAt (listed pairs entries) h) e b in
      omega (arith, slice_get_within (listed pairs entries) i f.0 f.1, length-map entries (hash_of pairs))

  start_tells : (a b : HashEntry) → BeginsAsItsHash pairs a → BeginsAsItsHash pairs b → (c : Ordering) → start_cmp a.start b.start ≡ c → c ≢ Equal → by_hash a b ≡ c
  start_tells a b s t c e n =
      first_then (hash_cmp (hash_of pairs a).hash (hash_of pairs b).hash) c _
      (hash_start_tells (hash_of pairs a).hash (hash_of pairs b).hash c (sym (λ i. start_cmp (as_begun a s i) (as_begun b t i)) ∙ e) n) n

  abbrev entries_total : IsTotalOrder (λ (a b : HashEntry). start_cmp a.start b.start)
  entries_total = on_total (λ (e : HashEntry). e.start) start_cmp_total

  pub entry_cmp_total : IsTotalOrder (entry_cmp pairs)
  entry_cmp_total = both_total (hash_of pairs) (λ a b. start_cmp a.start b.start) stored_cmp (BeginsAsItsHash pairs) entries_total stored_cmp_total stored_cmp_exact start_tells

  module _ (old sorted : List HashEntry) (moved : IsPermutation old sorted) (up : IsSorted (entry_cmp pairs) sorted) where
    pub left_rise : ((e : HashEntry) → Contains old e → BeginsAsItsHash pairs e) → IsStrictlySortedBy stored_cmp (listed pairs (dedup (eq_by_cmp (entry_cmp pairs)) sorted))
    left_rise = kept_rise (hash_of pairs) (λ a b. start_cmp a.start b.start) stored_cmp (BeginsAsItsHash pairs) entries_total stored_cmp_total stored_cmp_exact start_tells old sorted moved up

    pub left_keep : (e : StoredHash) → Contains (listed pairs old) e → Contains (listed pairs (dedup (eq_by_cmp (entry_cmp pairs)) sorted)) e
    left_keep = kept_keep (hash_of pairs) (λ a b. start_cmp a.start b.start) stored_cmp (BeginsAsItsHash pairs) entries_total stored_cmp_total stored_cmp_exact start_tells old sorted moved up

    pub left_add_none : (e : StoredHash) → Contains (listed pairs (dedup (eq_by_cmp (entry_cmp pairs)) sorted)) e → Contains (listed pairs old) e
    left_add_none = kept_add_none (hash_of pairs) (λ a b. start_cmp a.start b.start) stored_cmp (BeginsAsItsHash pairs) entries_total stored_cmp_total stored_cmp_exact start_tells old sorted moved up

    pub left_begin : ((e : HashEntry) → Contains old e → BeginsAsItsHash pairs e) → (e : HashEntry) → Contains (dedup (eq_by_cmp (entry_cmp pairs)) sorted) e → BeginsAsItsHash pairs e
    left_begin = kept_begin (hash_of pairs) (λ a b. start_cmp a.start b.start) stored_cmp (BeginsAsItsHash pairs) entries_total stored_cmp_total stored_cmp_exact start_tells old sorted moved up

-- ---- the entries of messages stand for their hashes

module _ (pairs : List HashPair) (stored : List StoredMessage) (ms : List NormalMessage) (t : Tells pairs stored ms) where
  entries_stand : (alg : Alg) → listed pairs (map (entry_of pairs alg) stored) ≡ map (stored_hash alg) ms
  entries_stand alg =
      in_turn stored
      ∙ map_agree (λ s. hash_of pairs (entry_of pairs alg s)) (λ s. stored_hash alg (message_in pairs s)) stored
      (λ s h. ap (λ p. stored_hash alg (record { place = s.place; pair = p })) (get_or_default pairs s.pair no_hashes no_pair (t.within s (contains_from_has stored s h))))
      ∙ sym (hashes_in_turn stored)
      ∙ ap (map (stored_hash alg)) t.told
    where
      in_turn : (ss : List StoredMessage) → listed pairs (map (entry_of pairs alg) ss) ≡ map (λ s. hash_of pairs (entry_of pairs alg s)) ss
      in_turn [] = refl
      in_turn (s ∷ ss) = ap (λ es. hash_of pairs (entry_of pairs alg s) ∷ es) (in_turn ss)

      hashes_in_turn : (ss : List StoredMessage) → map (stored_hash alg) (map (message_in pairs) ss) ≡ map (λ s. stored_hash alg (message_in pairs s)) ss
      hashes_in_turn [] = refl
      hashes_in_turn (s ∷ ss) = ap (λ es. stored_hash alg (message_in pairs s) ∷ es) (hashes_in_turn ss)

  needed_stand : (alg : Alg) (announced : List (Option Hash)) → listed pairs (needed_entries pairs alg announced stored) ≡ needed_hashes alg announced ms
  needed_stand alg announced = by (list_any (is_by alg) announced)
    where
      by : (b : Bool) → listed pairs (cond b (map (entry_of pairs alg) stored) []) ≡ cond b (map (stored_hash alg) ms) []
      by true = entries_stand alg
      by false = refl

  pub both_stand : (announced : List (Option Hash)) (entries : List HashEntry)
      → entries ≡ needed_entries pairs algs.Sha1 announced stored ++ needed_entries pairs algs.Sha256 announced stored
      → listed pairs entries ≡ needed_hashes algs.Sha1 announced ms ++ needed_hashes algs.Sha256 announced ms
  both_stand announced entries e =
      ap (listed pairs) e
      ∙ map-append (hash_of pairs) (needed_entries pairs algs.Sha1 announced stored) (needed_entries pairs algs.Sha256 announced stored)
      ∙ ap (λ es. es ++ listed pairs (needed_entries pairs algs.Sha256 announced stored)) (needed_stand algs.Sha1 announced)
      ∙ ap (λ es. needed_hashes algs.Sha1 announced ms ++ es) (needed_stand algs.Sha256 announced)

-- ---- they begin as those

module _ (pairs : List HashPair) (stored : List StoredMessage) where
  needed_begin : (alg : Alg) (b : Bool) (e : HashEntry) → Has (cond b (map (entry_of pairs alg) stored) []) e → BeginsAsItsHash pairs e
  needed_begin alg true e h = let w = from_has-map (entry_of pairs alg) stored e h in subst (BeginsAsItsHash pairs) w.2 refl
  needed_begin alg false e h = absurd h

  pub both_begin : (announced : List (Option Hash)) (entries : List HashEntry)
      → entries ≡ needed_entries pairs algs.Sha1 announced stored ++ needed_entries pairs algs.Sha256 announced stored
      → (e : HashEntry) → Contains entries e → BeginsAsItsHash pairs e
  both_begin announced entries are e here =
      elim (has-append_cases (needed_entries pairs algs.Sha1 announced stored) (needed_entries pairs algs.Sha256 announced stored) e (subst (λ es. Has es e) are (has_from_contains entries e here))) [
        | inl h ↦ needed_begin algs.Sha1 (list_any (is_by algs.Sha1) announced) e h
        | inr h ↦ needed_begin algs.Sha256 (list_any (is_by algs.Sha256) announced) e h
      ]
