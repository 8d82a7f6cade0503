-- Of one log: which keys are assigned a message with given hashes, how many these are, and how many such messages are left.
use Rattle.std.proofs.Common.{◌≡◌, inl, inr, ℕ, ◌+◌, Bool, true, false, not, ◌&&◌, List, length, filter, refl, sym, ap, ◌∙◌, subst, arith}
use Rattle.std.specs.Prelude.{Option, Some, nat_lt, count_by, slice_get}
use Rattle.std.proofs.lemmas.Bool.{and_parts, and_from, lt-ltb, ltb-true}
use Rattle.std.proofs.lemmas.Cmp.{nat_cmp_total}
use Rattle.std.proofs.lemmas.List.{length-map}
use Rattle.std.proofs.lemmas.List.Sums.{length-filter}
use Rattle.std.proofs.lemmas.Map.Lookups.{exact_unsigned}
use Rattle.std.proofs.lemmas.Option.{slice_get_cases, slice_get_within}
use Rattle.ss_block.specs.declared.hash.HashPair.{HashPair}
use Rattle.ss_review.specs.declared.keep.message.NormalMessage.{NormalMessage}
use Rattle.ss_review.specs.announced.Announced.{Key, Row, key_cmp, keys}
use Rattle.ss_review.specs.assign.Assigned.{same_pair, is_pair, places_with, wanted, rank, place_of, assigned, is_taken}
use Rattle.ss_octets.proofs.Members.{Has}
use Rattle.ss_review.proofs.of_numbers.Announcements.{keys-rise}
use Rattle.ss_review.proofs.of_lists.Counting.{same_pair-is, same_itself}
use Rattle.ss_review.proofs.of_lists.EqualCounts.{count_by-parts}
use Rattle.ss_review.proofs.of_lists.Keyed.{has-slice_get, one_of_key}
use Rattle.ss_review.proofs.of_reports.Leftovers.{taken_by, takes}
use Rattle.ss_review.proofs.of_assignment.OnePlaceOneKey.{wanted_key, assigned_cases, from_has-places_with, one_key}
use Rattle.ss_review.proofs.of_lists.Sums.{count_by-same}
use Rattle.ss_review.proofs.of_lists.TotalOrders.{key_cmp_total}
use Rattle.ss_laws.proofs.of_carry.Matching.{gets, rank_of}
use Rattle.ss_laws.proofs.of_carry.PairedCounts.{distinct_rising, distinct_by_key, count-paired}
use Rattle.ss_review.proofs.of_assignment.StoredRuns.{PlacesRise}
use Rattle.ss_laws.proofs.of_parts.PartAssigned.{is_pair-is}

pub is_pair-some : (p : HashPair) (o : Option HashPair) → o ≡ Some p → is_pair p o ≡ true
is_pair-some p o e = ap (is_pair p) e ∙ same_itself p

module _ (ms : List NormalMessage) (rs : List Row) where
  abbrev pub wants_pair : HashPair → Key → Bool
  wants_pair p k = is_pair p (wanted ms rs k)

  abbrev pub many_with : HashPair → ℕ
  many_with p = count_by (λ (m : NormalMessage). same_pair m.pair p) ms

  -- the key wants these hashes, and fewer smaller keys do than there are messages with them
  abbrev pub gets_pair : HashPair → Key → Bool
  gets_pair p k = gets key_cmp (keys rs) (wants_pair p) (many_with p) k

  -- the key is assigned the place of a message with these hashes
  pub record GetsOne (p : HashPair) (k : Key) : Type 0 where
    pub message : NormalMessage
    pub stored : Has ms message
    pub pair_is : message.pair ≡ p
    pub place : assigned ms rs k ≡ Some message.place
    pub wants : wanted ms rs k ≡ Some p

  length-places_with : (p : HashPair) → length (places_with ms p) ≡ many_with p
  unfolding places_with
  length-places_with p =
      length-map (filter (λ (m : NormalMessage). same_pair m.pair p) ms) (λ (m : NormalMessage). m.place)
      ∙ length-filter (λ (m : NormalMessage). same_pair m.pair p) ms

  rank_is : (p : HashPair) (k : Key) → rank ms rs k p ≡ rank_of key_cmp (keys rs) (wants_pair p) (many_with p) k
  unfolding rank
  rank_is p k = refl

  -- ---- whoever is assigned a message

  is_placed : (p : HashPair) (k : Key) → wanted ms rs k ≡ Some p → assigned ms rs k ≡ slice_get (places_with ms p) (rank ms rs k p)
  unfolding assigned
  is_placed p k e = ap (place_of ms rs k) e

  from_index : (p : HashPair) (k : Key) (place : ℕ) → wanted ms rs k ≡ Some p → slice_get (places_with ms p) (rank ms rs k p) ≡ Some place → GetsOne p k
  from_index p k place w e =
      let m = from_has-places_with ms rs p place (has-slice_get (places_with ms p) (rank ms rs k p) place e) in
      record {
        message = m.0;
        stored = m.1;
        pair_is = m.2;
        place = is_placed p k w ∙ e ∙ ap (λ (n : ℕ). Some n) (sym m.3);
        wants = w;
      }

  pub got_one : (p : HashPair) (k : Key) → gets_pair p k ≡ true → GetsOne p k
  got_one p k g =
      let both = and_parts (wants_pair p k) (nat_lt (rank_of key_cmp (keys rs) (wants_pair p) (many_with p) k) (many_with p)) g in
      let below = ltb-true (rank_of key_cmp (keys rs) (wants_pair p) (many_with p) k) (many_with p) both.1 in
      let same = rank_is p k in
      let many = length-places_with p in
      elim (slice_get_cases (places_with ms p) (rank ms rs k p)).1 [
        | inl w ↦ from_index p k w.0 (is_pair-is p (wanted ms rs k) both.0) w.2
        | inr w ↦ absurd (omega (arith, below, same, many, w.0))
      ]

  -- whose rank is below the number of such messages
  gets_at : (p : HashPair) (k : Key) (place : ℕ) → wanted ms rs k ≡ Some p → slice_get (places_with ms p) (rank ms rs k p) ≡ Some place → gets_pair p k ≡ true
  gets_at p k place w e =
      let within = slice_get_within (places_with ms p) (rank ms rs k p) place e in
      let same = rank_is p k in
      let many = length-places_with p in
      and_from (wants_pair p k) (nat_lt (rank_of key_cmp (keys rs) (wants_pair p) (many_with p) k) (many_with p))
      (is_pair-some p (wanted ms rs k) w)
      (lt-ltb (rank_of key_cmp (keys rs) (wants_pair p) (many_with p) k) (many_with p) (omega (arith, within, same, many)))

  -- what is assigned to a key that is no other than the message at the place
  pub assigned_one : (k : Key) (place : ℕ) → assigned ms rs k ≡ Some place → (p : HashPair) × GetsOne p k × (gets_pair p k ≡ true)
  assigned_one k place e =
      let a = assigned_cases ms rs k place e in
      (a.0, from_index a.0 k place a.1 a.2, gets_at a.0 k place a.1 a.2)

  module _ (up : PlacesRise ms) where
    pub one_place : (m n : NormalMessage) → Has ms m → Has ms n → m.place ≡ n.place → m ≡ n
    one_place m n h i e = one_of_key nat_cmp_total exact_unsigned (λ (x : NormalMessage). x.place) ms up m n h i e

    pub one_got : (k : Key) (m : NormalMessage) → Has ms m → assigned ms rs k ≡ Some m.place → gets_pair m.pair k ≡ true
    one_got k m h e =
        let a = assigned_one k m.place e in
        let same : a.1.message.place ≡ m.place = (let both : Some a.1.message.place ≡ Some m.place = sym a.1.place ∙ e in cc) in
        let pair_is : a.0 ≡ m.pair = sym a.1.pair_is ∙ ap (λ (n : NormalMessage). n.pair) (one_place a.1.message m a.1.stored h same) in
        subst (λ p. gets_pair p k ≡ true) pair_is a.2

    -- ---- as many messages with these hashes are taken as keys get one

    abbrev Takes : NormalMessage → Key → Type 0
    Takes m k = Has ms m × (assigned ms rs k ≡ Some m.place)

    abbrev is_with : HashPair → NormalMessage → Bool
    is_with p m = same_pair m.pair p

    abbrev is_taken_with : HashPair → NormalMessage → Bool
    is_taken_with p m = is_taken ms rs m.place && same_pair m.pair p

    pub count-taken : (p : HashPair) → count_by (is_taken_with p) ms ≡ count_by (gets_pair p) (keys rs)
    count-taken p =
        count-paired (is_taken_with p) (gets_pair p) Takes ms (keys rs)
        (distinct_by_key nat_cmp_total (λ (m : NormalMessage). m.place) ms up) (distinct_rising key_cmp_total (keys rs) (keys-rise rs))
        there back one other
      where
        there : (m : NormalMessage) → Has ms m → is_taken_with p m ≡ true → (k : Key) × Has (keys rs) k × (gets_pair p k ≡ true) × Takes m k
        there m h t =
            let both = and_parts (is_taken ms rs m.place) (same_pair m.pair p) t in
            let k = taken_by ms rs m.place both.0 in
            let got = one_got k.0 m h k.1 in
            let a = assigned_one k.0 m.place k.1 in
            (k.0, wanted_key ms rs k.0 a.0 a.1.wants, subst (λ q. gets_pair q k.0 ≡ true) (same_pair-is m.pair p both.1) got, (h, k.1))

        back : (k : Key) → Has (keys rs) k → gets_pair p k ≡ true → (m : NormalMessage) × Has ms m × (is_taken_with p m ≡ true) × Takes m k
        back k h g =
            let w = got_one p k g in (
              w.message,
              w.stored,
              and_from (is_taken ms rs w.message.place) (same_pair w.message.pair p) (takes ms rs k w.message.place w.place) (ap (λ q. same_pair q p) w.pair_is ∙ same_itself p),
              (w.stored, w.place),
            )

        one : (m n : NormalMessage) (k : Key) → Takes m k → Takes n k → m ≡ n
        one m n k s t =
            let both : Some m.place ≡ Some n.place = sym s.1 ∙ t.1 in
            let same : m.place ≡ n.place = cc in
            one_place m n s.0 t.0 same

        other : (m : NormalMessage) (k j : Key) → Takes m k → Takes m j → k ≡ j
        other m k j s t = one_key ms rs up k j m.place s.1 t.1

    -- those that are left, and the keys that get one, are all
    pub count-untaken : (p : HashPair) → count_by (λ (m : NormalMessage). same_pair m.pair p && not (is_taken ms rs m.place)) ms + count_by (gets_pair p) (keys rs) ≡ many_with p
    count-untaken p =
        let parts = count_by-parts (is_with p) (λ (m : NormalMessage). is_taken ms rs m.place) ms in
        let taken = count-taken p in
        let turned : count_by (λ (m : NormalMessage). same_pair m.pair p && not (is_taken ms rs m.place)) ms ≡ count_by (λ (m : NormalMessage). not (is_taken ms rs m.place) && same_pair m.pair p) ms
        = count_by-same (λ (m : NormalMessage). same_pair m.pair p && not (is_taken ms rs m.place)) (λ (m : NormalMessage). not (is_taken ms rs m.place) && same_pair m.pair p) ms
        (λ m h. swapped (same_pair m.pair p) (not (is_taken ms rs m.place))) in
        omega (arith, parts, taken, turned)
      where
        swapped : (b c : Bool) → (b && c) ≡ (c && b)
        swapped true true = refl
        swapped true false = refl
        swapped false true = refl
        swapped false false = refl
