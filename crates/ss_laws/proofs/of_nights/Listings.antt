-- If each number of two logs is listed in its own, and each message too, they are in both logs together.
use Rattle.std.proofs.Common.{◌≡◌, ◌⊎◌, inl, inr, ℕ, ◌<◌, ◌≤◌, Bool, true, false, cond, ◌&&◌, List, [], ◌∷◌, ◌++◌, length, get_or, map, filter, refl, sym, ap, ◌∙◌, subst, arith}
use Rattle.std.specs.Prelude.{Option, Some, None, count_by}
use Rattle.std.specs.Ordering.{is_lt}
use Rattle.std.proofs.lemmas.Bool.{and_parts}
use Rattle.std.proofs.lemmas.Cmp.{nat_cmp_total, tied_itself}
use Rattle.std.proofs.lemmas.List.{length-map}
use Rattle.std.proofs.lemmas.List.Sums.{length-filter}
use Rattle.std.proofs.lemmas.Map.Lookups.{exact_unsigned}
use Rattle.std.proofs.lemmas.Option.{slice_get-get_or}
use Rattle.ss_block.specs.declared.hash.Hash.{Hash}
use Rattle.ss_block.specs.declared.hash.HashPair.{HashPair}
use Rattle.ss_review.specs.declared.keep.message.NormalMessage.{NormalMessage}
use Rattle.ss_review.specs.announced.Announced.{Key, Row, key_cmp, keys, hashes_for}
use Rattle.ss_review.specs.assign.Assigned.{same_pair, has_hash, is_pair, pair_of_bearer, places_with, wanted_with, wanted, rank, place_of, assigned, is_taken}
use Rattle.ss_octets.proofs.Members.{Has, has-map, from_has-map, has-append_left, has-append_right, has-append_cases, has-filter, from_has-filter}
use Rattle.ss_review.proofs.of_lists.Counting.{same_pair-is, same_itself}
use Rattle.ss_review.proofs.of_lists.Finding.{find_some, bearer_of}
use Rattle.ss_review.proofs.of_lists.Keyed.{has-slice_get, one_of_key}
use Rattle.ss_review.proofs.of_lists.TotalOrders.{key_cmp_total}
use Rattle.ss_review.proofs.of_numbers.Announcements.{keys-rise}
use Rattle.ss_review.proofs.of_reports.Leftovers.{taken_by, takes}
use Rattle.ss_review.proofs.of_assignment.FullPlaces.{AreDistinct, all_taken}
use Rattle.ss_review.proofs.of_assignment.OnePlaceOneKey.{count_by-fewer, only_one, wanted_key, assigned_cases, from_has-places_with, one_key}
use Rattle.ss_laws.proofs.of_parts.MovedReports.{moved_normal}
use Rattle.ss_laws.proofs.of_carry.PairedCounts.{distinct_rising, distinct_by_key, count-paired}
use Rattle.ss_laws.proofs.of_carry.WholeBearers.{no_bearer}
use Rattle.ss_review.proofs.of_assignment.StoredRuns.{PlacesRise}

distinct_filter : {X : Type 0} (p : X → Bool) (xs : List X) → AreDistinct xs → AreDistinct (filter p xs)
distinct_filter p [] d = tt
distinct_filter {X} p (x ∷ xs) d = at (p x) (distinct_filter p xs d.1)
  where
    at : (b : Bool) → AreDistinct (filter p xs) → AreDistinct (cond b (x ∷ filter p xs) (filter p xs))
    at true rest = (λ h. d.0 (from_has-filter p xs x h).0, rest)
    at false rest = rest

same_some : {X : Type 0} (x y : X) → Some x ≡ Some y → x ≡ y
same_some x y e = cc

-- ---- the messages of a log

module _ (ms : List NormalMessage) (up : PlacesRise ms) (rs : List Row) where
  one_message : (m n : NormalMessage) → Has ms m → Has ms n → m.place ≡ n.place → m ≡ n
  one_message m n h i e = one_of_key nat_cmp_total exact_unsigned (λ (x : NormalMessage). x.place) ms up m n h i e

  -- the message that is listed for a key, whose hashes the key wants
  pub record IsListedAs (k : Key) (m : NormalMessage) : Type 0 where
    pub stored : Has ms m
    pub assigned_is : assigned ms rs k ≡ Some m.place

  listed_as : (k : Key) (place : ℕ) → assigned ms rs k ≡ Some place → (m : NormalMessage) × IsListedAs k m
  listed_as k place e =
      let a = assigned_cases ms rs k place e in
      let n = from_has-places_with ms rs a.0 place (has-slice_get (places_with ms a.0) (rank ms rs k a.0) place a.2) in
      (n.0, record { stored = n.1; assigned_is = e ∙ ap (λ (p : ℕ). Some p) (sym n.3) })

  wants_it : (k : Key) (m : NormalMessage) → IsListedAs k m → wanted ms rs k ≡ Some m.pair
  wants_it k m l =
      let a = assigned_cases ms rs k m.place l.assigned_is in
      let n = from_has-places_with ms rs a.0 m.place (has-slice_get (places_with ms a.0) (rank ms rs k a.0) m.place a.2) in
      let same : n.0 ≡ m = one_message n.0 m n.1 l.stored n.3 in
      a.1 ∙ ap (λ (p : HashPair). Some p) (sym n.2 ∙ ap (λ (x : NormalMessage). x.pair) same)

  its_key : (k : Key) (m : NormalMessage) → IsListedAs k m → Has (keys rs) k
  its_key k m l = wanted_key ms rs k m.pair (wants_it k m l)

  one_listing : (k j : Key) (m : NormalMessage) → IsListedAs k m → IsListedAs j m → k ≡ j
  one_listing k j m l q = one_key ms rs up k j m.place l.assigned_is q.assigned_is

  one_listed : (k : Key) (m n : NormalMessage) → IsListedAs k m → IsListedAs k n → m ≡ n
  one_listed k m n l q = one_message m n l.stored q.stored (same_some m.place n.place (sym l.assigned_is ∙ q.assigned_is))

-- ---- a key wants in all messages what it wants in some of them, if no two have one hash and differ

module _ (all : List NormalMessage) (rw : List Row) (one_pair : (m n : NormalMessage) (h : Hash) → Has all m → Has all n → has_hash h m.pair ≡ true → has_hash h n.pair ≡ true → m.pair ≡ n.pair) where
  bearer_if : (h : Hash) (m : NormalMessage) → Has all m → has_hash h m.pair ≡ true → (o : Option HashPair) → pair_of_bearer all h ≡ o → pair_of_bearer all h ≡ Some m.pair
  bearer_if h m i t None e = absurd (no_bearer all h e m i t)
  bearer_if h m i t (Some q) e =
      let b = bearer_of all h q e in
      let f = find_some (λ n. has_hash h n.pair) all b.0 b.1 in
      e ∙ ap (λ (p : HashPair). Some p) (sym b.2 ∙ one_pair b.0 m h f.0 i f.1 t)

  module _ (ms : List NormalMessage) (rs : List Row) (there : (m : NormalMessage) → Has ms m → (n : NormalMessage) × Has all n × (n.pair ≡ m.pair))
      (hashes : (k : Key) → Has (keys rs) k → hashes_for rw k ≡ hashes_for rs k) where
    wants_there : (k : Key) (p : HashPair) → wanted ms rs k ≡ Some p → wanted all rw k ≡ Some p
    unfolding wanted
    wants_there k p e =
        let w = only_one ms (hashes_for rs k) p e in
        let b = bearer_of ms w.0 p w.3 in
        let f = find_some (λ n. has_hash w.0 n.pair) ms b.0 b.1 in
        let n = there b.0 f.0 in
        let t : has_hash w.0 n.0.pair ≡ true = ap (has_hash w.0) n.2 ∙ f.1 in
        ap (wanted_with all) (hashes k (wanted_key ms rs k p e) ∙ w.2)
        ∙ bearer_if w.0 n.0 n.1 t (pair_of_bearer all w.0) refl
        ∙ ap (λ (q : HashPair). Some q) (n.2 ∙ b.2)

-- ---- two logs

-- The first has the messages `xs`, the second one `ys`, whose places in both are given by `f`.
module _ (f : ℕ → ℕ) (xs ys : List NormalMessage) (rx ry rw : List Row) where
  abbrev pub both : List NormalMessage
  both = xs ++ map (moved_normal f) ys

  pub record AreListed : Type 0 where
    pub up : PlacesRise both
    pub up_first : PlacesRise xs
    pub up_second : PlacesRise ys
    pub moves_apart : (p q : ℕ) → f p ≡ f q → p ≡ q
    pub apart : (m n : NormalMessage) → Has xs m → Has ys n → m.place ≡ f n.place → ⊥
    pub key_cases : (k : Key) → Has (keys rw) k → Has (keys rx) k ⊎ Has (keys ry) k
    pub key_first : (k : Key) → Has (keys rx) k → Has (keys rw) k
    pub key_second : (k : Key) → Has (keys ry) k → Has (keys rw) k
    pub never_both : (k : Key) → Has (keys rx) k → Has (keys ry) k → ⊥
    pub hashes_first : (k : Key) → Has (keys rx) k → hashes_for rw k ≡ hashes_for rx k
    pub hashes_second : (k : Key) → Has (keys ry) k → hashes_for rw k ≡ hashes_for ry k
    pub one_pair : (m n : NormalMessage) (h : Hash) → Has both m → Has both n → has_hash h m.pair ≡ true → has_hash h n.pair ≡ true → m.pair ≡ n.pair
    pub listed_first : (k : Key) → Has (keys rx) k → (place : ℕ) × (assigned xs rx k ≡ Some place)
    pub listed_second : (k : Key) → Has (keys ry) k → (place : ℕ) × (assigned ys ry k ≡ Some place)
    pub taken_first : (m : NormalMessage) → Has xs m → is_taken xs rx m.place ≡ true
    pub taken_second : (m : NormalMessage) → Has ys m → is_taken ys ry m.place ≡ true

  module _ (are : AreListed) where
    -- the message of both that a key has in its own log
    pub record IsOfSecond (k : Key) (m : NormalMessage) : Type 0 where
      pub message : NormalMessage
      pub listed : IsListedAs ys are.up_second ry k message
      pub moved_is : moved_normal f message ≡ m

    abbrev IsOwn : Key → NormalMessage → Type 0
    IsOwn k m = IsListedAs xs are.up_first rx k m ⊎ IsOfSecond k m

    own_stored : (k : Key) (m : NormalMessage) → IsOwn k m → Has both m
    own_stored k m (inl l) = has-append_left xs (map (moved_normal f) ys) m l.stored
    own_stored k m (inr s) =
        has-append_right xs (map (moved_normal f) ys) m (subst (Has (map (moved_normal f) ys)) s.moved_is (has-map (moved_normal f) ys s.message s.listed.stored))

    own_wanted : (k : Key) (m : NormalMessage) → IsOwn k m → wanted both rw k ≡ Some m.pair
    own_wanted k m (inl l) =
        wants_there both rw are.one_pair xs rx (λ n h. (n, has-append_left xs (map (moved_normal f) ys) n h, refl)) are.hashes_first k m.pair (wants_it xs are.up_first rx k m l)
    own_wanted k m (inr s) =
        wants_there both rw are.one_pair ys ry (λ n h. (moved_normal f n, has-append_right xs (map (moved_normal f) ys) (moved_normal f n) (has-map (moved_normal f) ys n h), refl)) are.hashes_second k s.message.pair
        (wants_it ys are.up_second ry k s.message s.listed)
        ∙ ap (λ (x : NormalMessage). Some x.pair) s.moved_is

    own_of : (k : Key) → Has (keys rw) k → (m : NormalMessage) × IsOwn k m
    own_of k h =
        elim (are.key_cases k h) [
          | inl i ↦ (
              let l = are.listed_first k i in
              let w = listed_as xs are.up_first rx k l.0 l.1 in
              (w.0, inl w.1))
          | inr i ↦ (
              let l = are.listed_second k i in
              let w = listed_as ys are.up_second ry k l.0 l.1 in
              (moved_normal f w.0, inr (record { message = w.0; listed = w.1; moved_is = refl })))
        ]

    owner_of : (m : NormalMessage) → Has both m → (k : Key) × Has (keys rw) k × IsOwn k m
    owner_of m h =
        elim (has-append_cases xs (map (moved_normal f) ys) m h) [
          | inl i ↦ (
              let w = taken_by xs rx m.place (are.taken_first m i) in
              let l : IsListedAs xs are.up_first rx w.0 m = record { stored = i; assigned_is = w.1 } in
              (w.0, are.key_first w.0 (its_key xs are.up_first rx w.0 m l), inl l))
          | inr i ↦ (
              let n : (n : NormalMessage) × Has ys n × (moved_normal f n ≡ m) = from_has-map (moved_normal f) ys m i in
              let w = taken_by ys ry n.0.place (are.taken_second n.0 n.1) in
              let l : IsListedAs ys are.up_second ry w.0 n.0 = record { stored = n.1; assigned_is = w.1 } in
              (w.0, are.key_second w.0 (its_key ys are.up_second ry w.0 n.0 l), inr (record { message = n.0; listed = l; moved_is = n.2 })))
        ]

    same_moved : (m n : NormalMessage) → Has ys m → Has ys n → moved_normal f m ≡ moved_normal f n → m ≡ n
    same_moved m n h i e = one_message ys are.up_second ry m n h i (are.moves_apart m.place n.place (ap (λ (x : NormalMessage). x.place) e))

    one_owner : (k j : Key) (m : NormalMessage) → IsOwn k m → IsOwn j m → k ≡ j
    one_owner k j m (inl l) (inl q) = one_listing xs are.up_first rx k j m l q
    one_owner k j m (inl l) (inr s) = absurd (are.apart m s.message l.stored s.listed.stored (ap (λ (x : NormalMessage). x.place) (sym s.moved_is)))
    one_owner k j m (inr s) (inl q) = absurd (are.apart m s.message q.stored s.listed.stored (ap (λ (x : NormalMessage). x.place) (sym s.moved_is)))
    one_owner k j m (inr s) (inr t) =
        let same : t.message ≡ s.message = same_moved t.message s.message t.listed.stored s.listed.stored (t.moved_is ∙ sym s.moved_is) in
        one_listing ys are.up_second ry k j s.message s.listed (subst (IsListedAs ys are.up_second ry j) same t.listed)

    one_own : (k : Key) (m n : NormalMessage) → IsOwn k m → IsOwn k n → m ≡ n
    one_own k m n (inl l) (inl q) = one_listed xs are.up_first rx k m n l q
    one_own k m n (inl l) (inr s) = absurd (are.never_both k (its_key xs are.up_first rx k m l) (its_key ys are.up_second ry k s.message s.listed))
    one_own k m n (inr s) (inl q) = absurd (are.never_both k (its_key xs are.up_first rx k n q) (its_key ys are.up_second ry k s.message s.listed))
    one_own k m n (inr s) (inr t) =
        sym s.moved_is ∙ ap (moved_normal f) (one_listed ys are.up_second ry k s.message t.message s.listed t.listed) ∙ t.moved_is

    -- ---- as many keys want two hashes as messages have them

    abbrev wants : HashPair → Key → Bool
    wants p k = is_pair p (wanted both rw k)

    abbrev has : HashPair → NormalMessage → Bool
    has p m = same_pair m.pair p

    alike : (p : HashPair) (k : Key) (m : NormalMessage) → IsOwn k m → wants p k ≡ has p m
    alike p k m o = ap (is_pair p) (own_wanted k m o)

    as_many : (p : HashPair) → count_by (wants p) (keys rw) ≡ count_by (has p) both
    as_many p =
        count-paired (wants p) (has p) IsOwn (keys rw) both (distinct_rising key_cmp_total (keys rw) (keys-rise rw)) (distinct_by_key nat_cmp_total (λ (m : NormalMessage). m.place) both are.up)
        (λ k h t. (let o = own_of k h in (o.0, own_stored k o.0 o.1, sym (alike p k o.0 o.1) ∙ t, o.1)))
        (λ m h t. (let o = owner_of m h in (o.0, o.1, alike p o.0 m o.2 ∙ t, o.2)))
        one_owner one_own

    places_count : (p : HashPair) → length (places_with both p) ≡ count_by (has p) both
    unfolding places_with
    places_count p = length-map (filter (has p) both) (λ (m : NormalMessage). m.place) ∙ length-filter (has p) both

    rank_within : (k : Key) (p : HashPair) → Has (keys rw) k → wants p k ≡ true → rank both rw k p < length (places_with both p)
    unfolding rank
    rank_within k p h t =
        let fewer = count_by-fewer (λ j. is_lt (key_cmp j k) && wants p j) (wants p) (λ j s. (and_parts (is_lt (key_cmp j k)) (wants p j) s).1) (keys rw) k h
        (ap (λ c. is_lt c && wants p k) (tied_itself key_cmp_total k)) t in
        omega (arith, fewer, as_many p, places_count p)

    -- ---- so each key is listed, and each message

    assigned_if : (k : Key) (p : HashPair) → Has (keys rw) k → wanted both rw k ≡ Some p → assigned both rw k ≡ Some (get_or (places_with both p) (rank both rw k p) 0)
    unfolding assigned
    assigned_if k p h e =
        ap (place_of both rw k) e ∙ slice_get-get_or (places_with both p) (rank both rw k p) 0 (rank_within k p h (ap (is_pair p) e ∙ same_itself p))

    pub all_listed : (k : Key) → Has (keys rw) k → (place : ℕ) × (assigned both rw k ≡ Some place)
    all_listed k h =
        let o = own_of k h in
        (get_or (places_with both o.0.pair) (rank both rw k o.0.pair) 0, assigned_if k o.0.pair h (own_wanted k o.0 o.1))

    place_for : (p : HashPair) (k : Key) → Has (filter (wants p) (keys rw)) k → (place : ℕ) × Has (places_with both p) place × (assigned both rw k ≡ Some place)
    place_for p k h =
        let i = from_has-filter (wants p) (keys rw) k h in
        let l = all_listed k i.0 in
        let a = assigned_cases both rw k l.0 l.1 in
        let same : a.0 ≡ p = same_pair-is a.0 p (ap (is_pair p) (sym a.1) ∙ i.1) in
        (l.0, subst (λ (q : HashPair). Has (places_with both q) l.0) same (has-slice_get (places_with both a.0) (rank both rw k a.0) l.0 a.2), l.1)

    has_place : (m : NormalMessage) → Has both m → Has (places_with both m.pair) m.place
    unfolding places_with
    has_place m h = has-map (λ (n : NormalMessage). n.place) (filter (has m.pair) both) m (has-filter (has m.pair) both m h (same_itself m.pair))

    pub all_messages : (m : NormalMessage) → Has both m → is_taken both rw m.place ≡ true
    all_messages m h =
        let p = m.pair in
        let fits : length (places_with both p) ≤ length (filter (wants p) (keys rw)) = omega (arith, places_count p, as_many p, length-filter (wants p) (keys rw)) in
        let w = all_taken (assigned both rw) (one_key both rw are.up) (filter (wants p) (keys rw)) (places_with both p)
        (distinct_filter (wants p) (keys rw) (distinct_rising key_cmp_total (keys rw) (keys-rise rw))) (place_for p) fits m.place (has_place m h) in
        takes both rw w.0 m.place w.2
