-- The numbers that originators gave messages, and how many of them have messages with two hashes.
use Rattle.std.proofs.Common.{◌≡◌, ℕ, ◌+◌, ◌-◌, ◌<◌, ◌≤◌, Bool, true, ◌&&◌, List, map, sym, ap, ◌∙◌, subst, arith}
use Rattle.std.specs.Prelude.{Option, Some, slice_get, count_by}
use Rattle.std.specs.Ordering.{is_lt, is_eq}
use Rattle.std.specs.List.{flat_map, enumerate_from, range_with_len}
use Rattle.std.proofs.lemmas.Bool.{and_parts, and_from}
use Rattle.std.proofs.lemmas.Cmp.{tied_itself}
use Rattle.ss_block.specs.declared.hash.HashPair.{HashPair}
use Rattle.ss_block.specs.OrderLaws.{session_cmp_total}
use Rattle.ss_origin.specs.declared.config.Config.{Config}
use Rattle.ss_origin.specs.Configs.{is_config}
use Rattle.ss_origin.specs.Groups.{is_grouping}
use Rattle.ss_origin.specs.Calls.{spri_in}
use Rattle.ss_origin.specs.Chain.{given_to}
use Rattle.ss_origin.specs.GroupLaws.{SprisAreSmall}
use Rattle.ss_review.specs.sessions.Sessions.{same_session}
use Rattle.ss_review.specs.announced.Announced.{Key, key_cmp, keys}
use Rattle.ss_review.specs.assign.Assigned.{is_pair}
use Rattle.ss_review.specs.deliveries.Delivery.{own_session, submitted_to}
use Rattle.ss_review.specs.deliveries.Delivered.{MessagesAreInGroups, own_number, KeysHaveBlocks}
use Rattle.ss_review.specs.deliveries.DeliveryLaws.{Case, IsCase, rows_in, message_of, pair_of, rank_in}
use Rattle.ss_review.proofs.of_numbers.Announcements.{numbered_from, has-numbered, keys-rise}
use Rattle.ss_review.proofs.of_lists.Counting.{count_by-map}
use Rattle.ss_review.proofs.of_lists.CountsWithin.{count_within}
use Rattle.ss_review.proofs.of_assignment.DifferentPairs.{text_has_pair}
use Rattle.ss_review.proofs.of_deliveries.Given.{is_given}
use Rattle.ss_review.proofs.of_lists.Keyed.{has-slice_get}
use Rattle.ss_octets.proofs.Members.{Has, has-map, has-flat_map}
use Rattle.ss_review.proofs.of_assignment.OnePlaceOneKey.{count_by-fewer}
use Rattle.ss_review.proofs.of_deliveries.OwnKeys.{same_session-is, its_hash}
use Rattle.ss_review.proofs.of_lists.Sums.{sum_by-same, count_by-same, count_by-flat_map, count_by-numbered}
use Rattle.ss_review.proofs.of_lists.Tests.{in_range}
use Rattle.ss_review.proofs.of_lists.TotalOrders.{key_cmp_total}

-- the groups of a configuration are in their ranges
pub grouping_of : (c : Config) → is_config c ≡ true → is_grouping c.grouping ≡ true
unfolding is_config
grouping_of c e = (and_parts _ _ e).1

module _ (x : Case) (p : HashPair) where
  -- a number of the session whose message has these hashes
  abbrev has_pair : Key → Bool
  has_pair j = same_session j.session (own_session x.s) && is_pair p (pair_of (message_of x j))

  -- ---- all numbers with messages

  abbrev numbers_of : ℕ → List Key
  numbers_of spri = map (λ (n : ℕ × List ℕ). own_number x spri n.0) (enumerate_from 1 (given_to x.s.config spri x.chain))

  abbrev all_numbers : List Key
  all_numbers = flat_map numbers_of (range_with_len 0 192)

  has_pair_at : (spri : ℕ) (n : ℕ × List ℕ) → Has (enumerate_from 1 (given_to x.s.config spri x.chain)) n → has_pair (own_number x spri n.0) ≡ text_has_pair p n.1
  has_pair_at spri n h =
      let w = numbered_from 1 (given_to x.s.config spri x.chain) n h in
      let at : n.0 - 1 ≡ w.0 = omega (arith, w.1) in
      let message : message_of x (own_number x spri n.0) ≡ Some n.1 = ap (slice_get (given_to x.s.config spri x.chain)) at ∙ w.2 in
      let own : same_session (own_session x.s) (own_session x.s) ≡ true = ap is_eq (tied_itself session_cmp_total (own_session x.s)) in
      ap (λ b. b && is_pair p (pair_of (message_of x (own_number x spri n.0)))) own
      ∙ ap (λ (o : Option (List ℕ)). is_pair p (pair_of o)) message

  counted_of : (spri : ℕ) → count_by has_pair (numbers_of spri) ≡ count_by (text_has_pair p) (given_to x.s.config spri x.chain)
  counted_of spri =
      let given = given_to x.s.config spri x.chain in
      count_by-map has_pair (λ (n : ℕ × List ℕ). own_number x spri n.0) (enumerate_from 1 given)
      ∙ count_by-same (λ (n : ℕ × List ℕ). has_pair (own_number x spri n.0)) (λ (n : ℕ × List ℕ). text_has_pair p n.1) (enumerate_from 1 given) (has_pair_at spri)
      ∙ count_by-numbered (text_has_pair p) 1 given

  module _ (small : SprisAreSmall) (in_groups : MessagesAreInGroups) (by_blocks : KeysHaveBlocks) (is : IsCase x) where
    below : (m : List ℕ) → spri_in x.s.config.grouping m < 192
    below m = small x.s.config.grouping m (grouping_of x.s.config is.chain.setting.fit.config)

    -- as many numbers as messages have these hashes
    pub counted_all : count_by has_pair all_numbers ≡ count_by (text_has_pair p) (submitted_to x.chain)
    counted_all =
        count_by-flat_map has_pair numbers_of (range_with_len 0 192)
        ∙ sum_by-same (λ spri. count_by has_pair (numbers_of spri)) (λ spri. count_by (text_has_pair p) (given_to x.s.config spri x.chain)) (range_with_len 0 192) (λ spri h. counted_of spri)
        ∙ sym (in_groups x.s.config x.chain (text_has_pair p) 192 below)

    -- an announced number of the session is one of them
    pub is_number : (j : Key) → j.session ≡ own_session x.s → Has (keys (rows_in x)) j → Has all_numbers j
    is_number j own h =
        let i = its_hash by_blocks x is j own h in
        let spri = j.group.spri in
        let given = given_to x.s.config spri x.chain in
        let g = is_given x.s.config spri x.chain i.message (has-slice_get given (j.number - 1) i.message i.given) in
        let at : 1 + (j.number - 1) ≡ j.number = omega (arith, i.number) in
        let here : Has (numbers_of spri) (own_number x spri (1 + (j.number - 1)))
        = has-map (λ (n : ℕ × List ℕ). own_number x spri n.0) (enumerate_from 1 given) (1 + (j.number - 1), i.message) (has-numbered 1 given (j.number - 1) i.message i.given) in
        let that : own_number x spri (1 + (j.number - 1)) ≡ j = λ t. record { session = sym own t; group = record { sg = sym i.group t; spri = spri }; number = at t } in
        has-flat_map numbers_of (range_with_len 0 192) spri j
        (in_range 0 192 spri (omega arith) (omega (arith, below i.message, g.1)))
        (subst (Has (numbers_of spri)) that here)

    counted_announced : count_by has_pair (keys (rows_in x)) ≤ count_by (text_has_pair p) (submitted_to x.chain)
    counted_announced =
        omega (
          arith,
          counted_all,
          count_within key_cmp_total has_pair (keys (rows_in x)) all_numbers (keys-rise (rows_in x))
              (λ j h t. is_number j (same_session-is j.session (own_session x.s) (and_parts (same_session j.session (own_session x.s)) (is_pair p (pair_of (message_of x j))) t).0) h),
        )

    -- fewer smaller numbers than messages have these hashes, where the number's own message has them
    pub rank_below_count : (k : Key) → k.session ≡ own_session x.s → Has (keys (rows_in x)) k → is_pair p (pair_of (message_of x k)) ≡ true → rank_in x k p + 1 ≤ count_by (text_has_pair p) (submitted_to x.chain)
    rank_below_count k own h its =
        let mine : same_session k.session (own_session x.s) ≡ true = ap (same_session k.session) (sym own) ∙ ap is_eq (tied_itself session_cmp_total k.session) in
        let fewer : rank_in x k p < count_by has_pair (keys (rows_in x))
        = count_by-fewer
        (λ j. is_lt (key_cmp j k) && same_session j.session (own_session x.s) && is_pair p (pair_of (message_of x j)))
        has_pair
        (λ j t.
        (let both = and_parts (is_lt (key_cmp j k) && same_session j.session (own_session x.s)) (is_pair p (pair_of (message_of x j))) t in
        and_from (same_session j.session (own_session x.s)) (is_pair p (pair_of (message_of x j))) (and_parts (is_lt (key_cmp j k)) (same_session j.session (own_session x.s)) both.0).1 both.1))
        (keys (rows_in x)) k h
        (ap (λ c. is_lt c && same_session k.session (own_session x.s) && is_pair p (pair_of (message_of x k))) (tied_itself key_cmp_total k))
        (and_from (same_session k.session (own_session x.s)) (is_pair p (pair_of (message_of x k))) mine its) in
        omega (arith, fewer, counted_announced)
