-- The messages of all files so far: those that the last night reviews, and one for each number that was settled before.
use Rattle.std.proofs.Common.{◌≡◌, inl, inr, ℕ, ◌+◌, ◌<◌, Bool, true, false, not, ◌&&◌, List, refl, sym, ap, ◌∙◌, subst, arith}
use Rattle.std.specs.Prelude.{Option, Some, nat_le, count_by}
use Rattle.std.specs.Ordering.{nat_cmp}
use Rattle.std.specs.List.Sorted.{IsStrictlySortedBy}
use Rattle.std.proofs.lemmas.Bool.{cases_order, and_parts, and_from, false_from_ne_true}
use Rattle.std.proofs.lemmas.Cmp.{nat_cmp_total, on_total}
use Rattle.std.proofs.lemmas.Map.Lookups.{exact_unsigned}
use Rattle.ss_block.specs.declared.hash.HashPair.{HashPair}
use Rattle.ss_review.specs.declared.keep.message.NormalMessage.{NormalMessage}
use Rattle.ss_review.specs.sessions.Verified.{Answers}
use Rattle.ss_review.specs.announced.Announced.{Key, rows, keys}
use Rattle.ss_review.specs.assign.Assigned.{same_pair, is_pair}
use Rattle.ss_octets.proofs.Members.{Has}
use Rattle.ss_review.proofs.of_numbers.Announcements.{keys-rise}
use Rattle.ss_review.proofs.of_lists.Counting.{same_pair-is, same_itself}
use Rattle.ss_review.proofs.of_lists.EqualCounts.{count_by-parts}
use Rattle.ss_review.proofs.of_lists.FilteredAlike.{same_count}
use Rattle.ss_review.proofs.of_lists.Keyed.{one_of_key, keys_rise-filter}
use Rattle.ss_review.proofs.of_assignment.OnePlaceOneKey.{one_key}
use Rattle.ss_review.proofs.of_lists.OnesInOrder.{rise_by_key}
use Rattle.ss_review.proofs.of_lists.TotalOrders.{key_cmp_total}
use Rattle.ss_laws.specs.carry.Nights.{Nights, is_reviewed, night_log, so_far, listed, LeaveEnough, IsSettled}
use Rattle.ss_laws.proofs.of_carry.OnePair.{is_pair-some}
use Rattle.ss_laws.proofs.of_carry.PairedCounts.{distinct_rising, distinct_by_key, count-paired}
use Rattle.ss_review.proofs.of_assignment.StoredRuns.{PlacesRise}
use Rattle.ss_laws.proofs.of_parts.PartAssigned.{is_pair-is}
use Rattle.ss_laws.proofs.of_carry.SettledKeys.{
  AgreeButLost,
  left_behind,
  dropped,
  from_night_normal,
  has-night_normal,
  from_so_far_normal,
  night_so_far,
  lists_one,
  settled_left,
  left_settled,
  SettledOne,
  settled_once,
  settled_one,
  settled_pair,
  settled_with,
  has-settled_pair,
}

module _ (x : Nights) (up : PlacesRise x.whole.normal) where
  -- ---- places rise

  pub same_message : (m n : NormalMessage) → Has x.whole.normal m → Has x.whole.normal n → m.place ≡ n.place → m ≡ n
  same_message m n h i e = one_of_key nat_cmp_total exact_unsigned (λ (q : NormalMessage). q.place) x.whole.normal up m n h i e

  pub night_rise : (night : ℕ) → PlacesRise (night_log x night).normal
  night_rise night = keys_rise-filter (λ (m : NormalMessage). m.place) nat_cmp (λ (m : NormalMessage). is_reviewed x night m.place) x.whole.normal up

  pub so_far_rise : (night : ℕ) → PlacesRise (so_far x night).normal
  so_far_rise night = keys_rise-filter (λ (m : NormalMessage). m.place) nat_cmp (λ (m : NormalMessage). nat_le (x.file m.place) night) x.whole.normal up

  rises : (ms : List NormalMessage) → PlacesRise ms → IsStrictlySortedBy (λ (m n : NormalMessage). nat_cmp m.place n.place) ms
  rises ms rise = rise_by_key (λ (m : NormalMessage). m.place) nat_cmp ms rise

  module _ (says : Answers) (last : ℕ) (leave : LeaveEnough says x last) (agree : AgreeButLost says x last) where
    abbrev pub pair_settled : Key → Option HashPair
    pair_settled = settled_pair x says last leave agree

    abbrev all : List NormalMessage
    all = (so_far x last).normal

    abbrev all_keys : List Key
    all_keys = keys (rows says (so_far x last).blocks)

    abbrev is_reviewed_with : HashPair → NormalMessage → Bool
    is_reviewed_with p m = is_reviewed x last m.place && same_pair m.pair p

    abbrev is_left_with : HashPair → NormalMessage → Bool
    is_left_with p m = not (is_reviewed x last m.place) && same_pair m.pair p

    -- those that the last night reviews
    count-reviewed : (p : HashPair) → count_by (is_reviewed_with p) all ≡ count_by (λ (m : NormalMessage). same_pair m.pair p) (night_log x last).normal
    count-reviewed p =
        same_count (on_total (λ (m : NormalMessage). m.place) nat_cmp_total) (is_reviewed_with p) (λ (m : NormalMessage). same_pair m.pair p)
        all (night_log x last).normal (rises all (so_far_rise last)) (rises (night_log x last).normal (night_rise last))
        (λ m h t.
        (let both = and_parts (is_reviewed x last m.place) (same_pair m.pair p) t in
        (has-night_normal x last m (from_so_far_normal x last m h).0 both.0, both.1)))
        (λ m h t. (night_so_far x last last m (omega arith) h, and_from (is_reviewed x last m.place) (same_pair m.pair p) (from_night_normal x last m h).1 t))

    -- ---- the others were left behind, each with a number that was settled

    abbrev GoesWith : NormalMessage → Key → Type 0
    GoesWith m k = Has x.whole.normal m × ((night : ℕ) × (night < last) × IsSettled says x night k m.place)

    module _ (there : (k : Key) → SettledOne x says last leave agree k → Has all_keys k) (p : HashPair) where
      not_true : (b : Bool) → not b ≡ true → b ≡ false
      not_true true e = absurd (cc)
      not_true false e = refl

      with_key : (m : NormalMessage) → Has all m → is_left_with p m ≡ true → (k : Key) × Has all_keys k × (is_pair p (pair_settled k) ≡ true) × GoesWith m k
      with_key m h t =
          let both = and_parts (not (is_reviewed x last m.place)) (same_pair m.pair p) t in
          let f = from_so_far_normal x last m h in
          let d = dropped x last m.place f.1 (not_true (is_reviewed x last m.place) both.0) in
          let s = left_settled x says d.0 (leave d.0 d.1) m (has-night_normal x d.0 m f.0 d.2) d.3 in
          let o = settled_one x says last leave agree s.0 (d.0, m.place, d.1, s.1) in
          let same : o.one.message ≡ m
          = same_message o.one.message m (from_night_normal x o.night o.one.message o.one.stored).0 f.0 o.one.place_is in
          let its : o.one.message.pair ≡ p = ap (λ (n : NormalMessage). n.pair) same ∙ same_pair-is m.pair p both.1 in (
            s.0,
            there s.0 o,
            is_pair-some p (pair_settled s.0) (has-settled_pair x says last leave agree s.0 o same_message ∙ ap (λ (q : HashPair). Some q) its),
            (f.0, (d.0, d.1, s.1)),
          )

      with_message : (k : Key) → Has all_keys k → is_pair p (pair_settled k) ≡ true → (m : NormalMessage) × Has all m × (is_left_with p m ≡ true) × GoesWith m k
      with_message k h t =
          let w = settled_with x says last leave agree k p (is_pair-is p (pair_settled k) t) in
          let o = w.one in
          let m = o.one.message in
          let f = from_night_normal x o.night m o.one.stored in
          let settled : IsSettled says x o.night k m.place = subst (IsSettled says x o.night k) (sym o.one.place_is) o.is in
          let left = settled_left x says o.night (leave o.night o.before) k m.place settled in
          let gone : is_reviewed x last m.place ≡ false
          = false_from_ne_true (is_reviewed x last m.place) (left_behind x o.night last m.place f.1 left o.before) in (
            m,
            night_so_far x o.night last m (omega (arith, o.before)) o.one.stored,
            and_from (not (is_reviewed x last m.place)) (same_pair m.pair p) (ap not gone) (ap (λ q. same_pair q p) w.pair_is ∙ same_itself p),
            (f.0, (o.night, o.before, settled)),
          )

      one_message : (m n : NormalMessage) (k : Key) → GoesWith m k → GoesWith n k → m ≡ n
      one_message m n k s t =
          same_message m n s.0 t.0 (settled_once x says last leave agree s.1.0 t.1.0 k m.place n.place s.1.1 t.1.1 s.1.2 t.1.2).1

      reviewed_in : (night : ℕ) (k : Key) (place : ℕ) → IsSettled says x night k place → is_reviewed x night place ≡ true
      reviewed_in night k place s =
          let o = lists_one x says night k place s.listed in
          subst (λ q. is_reviewed x night q ≡ true) o.place_is (from_night_normal x night o.message o.stored).1

      not_later : (i j : ℕ) (k q : Key) (place : ℕ) → i < last → i < j → IsSettled says x i k place → IsSettled says x j q place → ⊥
      not_later i j k q place below less s t =
          left_behind x i j place (reviewed_in i k place s) (settled_left x says i (leave i below) k place s) less (reviewed_in j q place t)

      one_settled : (m : NormalMessage) (k q : Key) → GoesWith m k → GoesWith m q → k ≡ q
      one_settled m k q s t =
          elim (cases_order s.1.0 t.1.0) [
            | inl e ↦ one_key (night_log x t.1.0).normal (rows says (night_log x t.1.0).blocks) (night_rise t.1.0) k q m.place
                (subst (λ night. listed says (night_log x night) k ≡ Some m.place) e s.1.2.listed) t.1.2.listed
            | inr (inl less) ↦ absurd (not_later s.1.0 t.1.0 k q m.place s.1.1 less s.1.2 t.1.2)
            | inr (inr more) ↦ absurd (not_later t.1.0 s.1.0 q k m.place t.1.1 more t.1.2 s.1.2)
          ]

      count-left : count_by (is_left_with p) all ≡ count_by (λ k. is_pair p (pair_settled k)) all_keys
      count-left =
          count-paired (is_left_with p) (λ k. is_pair p (pair_settled k)) GoesWith all all_keys
          (distinct_by_key nat_cmp_total (λ (m : NormalMessage). m.place) all (so_far_rise last))
          (distinct_rising key_cmp_total all_keys (keys-rise (rows says (so_far x last).blocks)))
          with_key with_message one_message one_settled

      -- so these are all
      pub count-messages : count_by (λ (m : NormalMessage). same_pair m.pair p) all
          ≡ count_by (λ (m : NormalMessage). same_pair m.pair p) (night_log x last).normal + count_by (λ k. is_pair p (pair_settled k)) all_keys
      count-messages =
          let parts = count_by-parts (λ (m : NormalMessage). same_pair m.pair p) (λ (m : NormalMessage). is_reviewed x last m.place) all in
          let here = count-reviewed p in
          omega (arith, parts, here, count-left)
