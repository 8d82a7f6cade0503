-- Where everything that was sent is in the log, and nothing else: each message without a block is listed.
use Rattle.std.proofs.Common.{◌≡◌, ℕ, ◌<◌, ◌≤◌, true, List, length, map, sym, ap, ◌∙◌, subst, arith}
use Rattle.std.specs.Prelude.{Some, count_by, Contains}
use Rattle.std.specs.List.{flat_map, range_with_len}
use Rattle.std.proofs.lemmas.List.{length-map}
use Rattle.std.proofs.lemmas.List.Concat.{length-flat_map}
use Rattle.std.proofs.lemmas.List.FromFn.{length-map-range_with_len}
use Rattle.ss_origin.specs.GroupLaws.{SprisAreSmall}
use Rattle.ss_origin.specs.Calls.{spri_in}
use Rattle.ss_origin.specs.Chain.{given_to}
use Rattle.ss_review.specs.declared.keep.message.NormalMessage.{NormalMessage}
use Rattle.ss_review.specs.keep.Notes.{notes}
use Rattle.ss_review.specs.announced.Announced.{Key, keys}
use Rattle.ss_review.specs.assign.Assigned.{assigned, places_with, rank, is_taken}
use Rattle.ss_review.specs.report.Entries.{entry_of}
use Rattle.ss_review.specs.report.Verdict.{is_listed}
use Rattle.ss_review.specs.deliveries.Delivery.{submitted_to}
use Rattle.ss_review.specs.deliveries.DeliveryLaws.{Case, normals_in, rows_in}
use Rattle.ss_review.specs.deliveries.Delivered.{MessagesAreInGroups, own_number}
use Rattle.ss_review.specs.deliveries.Whole.{IsWhole, MessagesAreStored, NumbersAreAnnounced, NumbersAreListed, MessagesAreListed}
use Rattle.ss_review.proofs.of_lists.EqualCounts.{count_by-all}
use Rattle.ss_review.proofs.of_assignment.FullPlaces.{AreDistinct, distinct-map, distinct-flat_map, distinct-range, all_taken}
use Rattle.ss_review.proofs.of_lists.Keyed.{has-slice_get}
use Rattle.ss_review.proofs.of_reports.Leftovers.{takes}
use Rattle.ss_octets.proofs.Members.{Has, has_from_contains, has-map, from_has-map, from_has-flat_map}
use Rattle.ss_review.proofs.of_kept_messages.NormalCounts.{normal_counts}
use Rattle.ss_review.proofs.of_assignment.OnePlaceOneKey.{assigned_cases, from_has-places_with, one_key}
use Rattle.ss_review.proofs.of_deliveries.OwnNumbers.{grouping_of}
use Rattle.ss_review.proofs.of_kept_messages.PlacesRise.{normals_rise}
use Rattle.ss_review.proofs.of_lists.Sums.{sum_by-same}
use Rattle.ss_review.proofs.of_lists.Tests.{from_in_range}
use Rattle.ss_review.proofs.of_reports.ToldNumbers.{place_listed}

-- ---- all numbers

module _ (x : Case) where
  abbrev given : ℕ → List (List ℕ)
  given spri = given_to x.s.config spri x.chain

  abbrev numbers_of : ℕ → List ℕ
  numbers_of spri = range_with_len 1 (length (given spri))

  abbrev keys_at : ℕ → List Key
  keys_at spri = map (own_number x spri) (numbers_of spri)

  -- the numbers of all messages that the originators were given, where the groups have SPRIs below so many
  abbrev all_keys : ℕ → List Key
  all_keys groups = flat_map keys_at (range_with_len 0 groups)

  distinct_at : (spri : ℕ) → AreDistinct (keys_at spri)
  distinct_at spri =
      distinct-map (own_number x spri) (λ n m e. ap (λ (k : Key). k.number) e) (numbers_of spri) (distinct-range 1 (length (given spri)))

  one_group : (spri other : ℕ) (k : Key) → Has (keys_at spri) k → Has (keys_at other) k → spri ≡ other
  one_group spri other k h i =
      let a = from_has-map (own_number x spri) (numbers_of spri) k h in
      let b = from_has-map (own_number x other) (numbers_of other) k i in
      ap (λ (j : Key). j.group.spri) (a.2 ∙ sym b.2)

  all_distinct : (groups : ℕ) → AreDistinct (all_keys groups)
  all_distinct groups = distinct-flat_map keys_at distinct_at one_group (range_with_len 0 groups) (distinct-range 0 groups)

  module _ (groups : ℕ) where
    -- they are as many as the submitted messages
    length-all : ((m : List ℕ) → spri_in x.s.config.grouping m < groups) → MessagesAreInGroups → length (all_keys groups) ≡ length (submitted_to x.chain)
    length-all small in_groups =
        length-flat_map keys_at (range_with_len 0 groups)
        ∙ sum_by-same (λ spri. length (keys_at spri)) (λ spri. count_by (λ m. true) (given spri)) (range_with_len 0 groups)
        (λ spri h. length-map-range_with_len (own_number x spri) 1 (length (given spri)) ∙ sym (count_by-all (given spri)))
        ∙ sym (in_groups x.s.config x.chain (λ m. true) groups small)
        ∙ count_by-all (submitted_to x.chain)

    abbrev AreAnnounced : Type 0
    AreAnnounced = (spri number : ℕ) → spri < groups → 1 ≤ number → number ≤ length (given spri) → Contains (keys (rows_in x)) (own_number x spri number)

    all_announced : AreAnnounced → (k : Key) → Has (all_keys groups) k → Contains (keys (rows_in x)) k
    all_announced numbers k h =
        let s = from_has-flat_map keys_at (range_with_len 0 groups) k h in
        let n = from_has-map (own_number x s.0) (numbers_of s.0) k s.2 in
        let small = from_in_range 0 groups s.0 s.1 in
        let within = from_in_range 1 (length (given s.0)) n.0 n.1 in
        subst (Contains (keys (rows_in x))) n.2 (numbers s.0 n.0 (omega (arith, small.1)) within.0 (omega (arith, within.1)))

-- ---- their places

module _ (x : Case) where
  abbrev place_of : NormalMessage → ℕ
  place_of m = m.place

  abbrev places : List ℕ
  places = map place_of (normals_in x)

  has_place : (k : Key) → is_listed (entry_of (normals_in x) (rows_in x) k) ≡ true → (p : ℕ) × Has places p × (assigned (normals_in x) (rows_in x) k ≡ Some p)
  has_place k e =
      let p = place_listed (rows_in x) k (assigned (normals_in x) (rows_in x) k) e in
      let a = assigned_cases (normals_in x) (rows_in x) k p.0 p.1 in
      let m = from_has-places_with (normals_in x) (rows_in x) a.0 p.0 (has-slice_get (places_with (normals_in x) a.0) (rank (normals_in x) (rows_in x) k a.0) p.0 a.2) in
      (p.0, subst (Has places) m.3 (has-map place_of (normals_in x) m.0 m.1), p.1)

  length-places : MessagesAreStored → IsWhole x → length places ≡ length (submitted_to x.chain)
  length-places stored w =
      length-map (normals_in x) place_of
      ∙ sym (count_by-all (normals_in x))
      ∙ normal_counts (λ p. true) x.log
      ∙ stored x w (λ m. true)
      ∙ count_by-all (submitted_to x.chain)

  -- ---- each place is one of theirs

  listed_in : (groups : ℕ) → IsWhole x → MessagesAreStored → NumbersAreListed → MessagesAreInGroups → ((m : List ℕ) → spri_in x.s.config.grouping m < groups) → AreAnnounced x groups
      → (m : NormalMessage) → Has (normals_in x) m → is_taken (normals_in x) (rows_in x) m.place ≡ true
  listed_in groups w stored listed in_groups small numbers m h =
      let as_many : length places ≡ length (all_keys x groups) = length-places stored w ∙ sym (length-all x groups small in_groups) in
      let k = all_taken (assigned (normals_in x) (rows_in x)) (one_key (normals_in x) (rows_in x) (normals_rise (notes x.log)))
      (all_keys x groups) places (all_distinct x groups)
      (λ j i. has_place j (listed x w j (all_announced x groups numbers j i)))
      (omega (arith, as_many)) m.place (has-map place_of (normals_in x) m h) in
      takes (normals_in x) (rows_in x) k.0 m.place k.2

pub messages_are_listed : MessagesAreStored → NumbersAreAnnounced → NumbersAreListed → MessagesAreInGroups → SprisAreSmall → MessagesAreListed
messages_are_listed stored numbers listed in_groups spris x w m c =
    listed_in x 192 w stored listed in_groups
    (λ n. spris x.s.config.grouping n (grouping_of x.s.config w.case.chain.setting.fit.config))
    (numbers x w) m (has_from_contains (normals_in x) m c)
