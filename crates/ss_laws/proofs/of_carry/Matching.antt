-- Keys in their order, of which some want one kind of message: each gets one as long as there are any. And two such lists,
-- of which one lacks what was settled before.
use Rattle.std.proofs.Common.{◌≡◌, ◌⊎◌, inl, inr, ℕ, ◌+◌, ◌<◌, ◌≤◌, Bool, true, false, cond, not, ◌&&◌, ◌||◌, List, [], ◌∷◌, ◌++◌, refl, sym, ap, ◌∙◌, subst, arith}
use Rattle.std.specs.Prelude.{nat_lt, min, count_by}
use Rattle.std.specs.declared.cmp.Ordering.{Ordering}
use Rattle.std.specs.declared.cmp.Ordering.TheVariants.{Less}
use Rattle.std.specs.Ordering.{is_lt}
use Rattle.std.specs.Cmp.{IsTotalOrder}
use Rattle.std.specs.List.Sorted.{IsStrictlySortedBy}
use Rattle.std.proofs.lemmas.Bool.{cases_eq, and_parts, and_from, cases_Bool, false_from_ne_true, lt-ltb, ltb-true, ltb-false, or_left, or_right, or_cases}
use Rattle.std.proofs.lemmas.Cmp.{tied_itself}
use Rattle.std.proofs.lemmas.List.{append_assoc}
use Rattle.ss_octets.proofs.Members.{Has}
use Rattle.ss_review.proofs.of_lists.Rising.{not_less_itself}
use Rattle.ss_review.proofs.of_lists.Counting.{count_by-cons, count_by-push, count_below}
use Rattle.ss_review.proofs.of_lists.Sums.{count_by-same}
use Rattle.ss_review.proofs.of_lists.EqualCounts.{count_by-parts}
use Rattle.ss_review.proofs.of_lists.FilteredAlike.{one_test, same_count}
use Rattle.ss_review.proofs.of_assignment.OnePlaceOneKey.{count_by-weaker, count_by-fewer}
use Rattle.ss_review.proofs.of_lists.TotalOrders.{less_is}

module _ {K : Type 0} (R : K → K → Ordering) (ks : List K) (wants : K → Bool) (many : ℕ) where
  -- how many smaller keys want one
  abbrev pub rank_of : K → ℕ
  rank_of k = count_by (λ j. is_lt (R j k) && wants j) ks

  -- the key wants one, and there are more than the smaller keys want
  abbrev pub gets : K → Bool
  gets k = wants k && nat_lt (rank_of k) many

module _ {K : Type 0} {R : K → K → Ordering} (o : IsTotalOrder R) where
  -- ---- one list

  module _ (ks : List K) (up : IsStrictlySortedBy R ks) where
    -- along the list each that wants one gets one, until none is left
    along : (wants : K → Bool) (many : ℕ) (front back : List K) → ks ≡ front ++ back
        → count_by (gets R ks wants many) back + min (count_by wants front) many ≡ min (count_by wants front + count_by wants back) many
    along wants many front [] e = omega arith
    along wants many front (k ∷ back) e =
        let rank : rank_of R ks wants many k ≡ count_by wants front
        = ap (count_by (λ j. is_lt (R j k) && wants j)) e ∙ count_below o front k back wants (subst (IsStrictlySortedBy R) e up) in
        let rest = along wants many (front ++ k ∷ []) back (e ∙ sym (append_assoc front (k ∷ []) back)) in
        let more = count_by-push wants front k in
        let here = count_by-cons (gets R ks wants many) k back in
        let own = count_by-cons wants k back in
        at (wants k) (nat_lt (rank_of R ks wants many k) many) refl rank rest more here own
      where
        at : (b c : Bool) → nat_lt (rank_of R ks wants many k) many ≡ c → rank_of R ks wants many k ≡ count_by wants front
            → count_by (gets R ks wants many) back + min (count_by wants (front ++ k ∷ [])) many ≡ min (count_by wants (front ++ k ∷ []) + count_by wants back) many
            → count_by wants (front ++ k ∷ []) ≡ count_by wants front + cond b 1 0
            → count_by (gets R ks wants many) (k ∷ back) ≡ cond (b && c) 1 0 + count_by (gets R ks wants many) back
            → count_by wants (k ∷ back) ≡ cond b 1 0 + count_by wants back
            → count_by (gets R ks wants many) (k ∷ back) + min (count_by wants front) many ≡ min (count_by wants front + count_by wants (k ∷ back)) many
        at true true t rank rest more here own =
            let below = ltb-true (rank_of R ks wants many k) many t in omega (arith, below, rank, rest, more, here, own)
        at true false t rank rest more here own =
            let above = ltb-false (rank_of R ks wants many k) many t in omega (arith, above, rank, rest, more, here, own)
        at false c t rank rest more here own = omega (arith, rest, more, here, own)

    pub count-gets : (wants : K → Bool) (many : ℕ) → count_by (gets R ks wants many) ks ≡ min (count_by wants ks) many
    count-gets wants many = let all = along wants many [] ks refl in omega (arith, all)

    -- a smaller key that wants one gets it where a greater one does
    pub smaller_gets : (wants : K → Bool) (many : ℕ) (j k : K) → R j k ≡ Less → wants j ≡ true → gets R ks wants many k ≡ true → gets R ks wants many j ≡ true
    smaller_gets wants many j k less w g =
        let below = ltb-true (rank_of R ks wants many k) many (and_parts (wants k) (nat_lt (rank_of R ks wants many k) many) g).1 in
        let fewer : rank_of R ks wants many j ≤ rank_of R ks wants many k
        = count_by-weaker (λ i. is_lt (R i j) && wants i) (λ i. is_lt (R i k) && wants i)
        (λ i t. (let both = and_parts (is_lt (R i j)) (wants i) t in
        and_from (is_lt (R i k)) (wants i) (ap is_lt (o.trans i j k (less_is (R i j) both.0) less)) both.1)) ks in
        and_from (wants j) (nat_lt (rank_of R ks wants many j) many) w (lt-ltb (rank_of R ks wants many j) many (omega (arith, below, fewer)))

    -- of the keys below one as many get one as want one, or as there are
    pub count-gets_below : (wants : K → Bool) (many : ℕ) (k : K) → count_by (λ j. is_lt (R j k) && gets R ks wants many j) ks ≡ min (rank_of R ks wants many k) many
    count-gets_below wants many k =
        count_by-same (λ j. is_lt (R j k) && gets R ks wants many j) (gets R ks below many) ks (λ j h. here j)
        ∙ count-gets below many
      where
        below : K → Bool
        below j = is_lt (R j k) && wants j

        parts : (a b c : Bool) → (a ≡ true → b ≡ c) → (w : Bool) → (a && (w && b)) ≡ ((a && w) && c)
        parts true b c f w = ap (λ d. w && d) (f refl)
        parts false b c f w = refl

        here : (j : K) → (is_lt (R j k) && gets R ks wants many j) ≡ gets R ks below many j
        here j = parts (is_lt (R j k)) (nat_lt (rank_of R ks wants many j) many) (nat_lt (rank_of R ks below many j) many) same (wants j)
          where
            within : (i : K) (a b w : Bool) → (a ≡ true → b ≡ true) → (a && w) ≡ (a && (b && w))
            within i true b w f = ap (λ c. c && w) (sym (f refl))
            within i false b w f = refl

            same : is_lt (R j k) ≡ true → nat_lt (rank_of R ks wants many j) many ≡ nat_lt (rank_of R ks below many j) many
            same less =
                ap (λ n. nat_lt n many)
                (count_by-same (λ i. is_lt (R i j) && wants i) (λ i. is_lt (R i j) && below i) ks
                (λ i h. within i (is_lt (R i j)) (is_lt (R i k)) (wants i) (λ t. ap is_lt (o.trans i j k (less_is (R i j) t) (less_is (R j k) less)))))

  -- ---- two lists, of which the second lacks what was settled before

  module _ (whole last : List K) (up : IsStrictlySortedBy R whole) (vp : IsStrictlySortedBy R last)
      (wants later settled : K → Bool) (many left : ℕ)
      (all_there : (k : K) → wants k ≡ true → Has whole k)
      (later_there : (k : K) → later k ≡ true → Has last k)
      (settled_wants : (k : K) → settled k ≡ true → wants k ≡ true)
      (messages : many ≡ left + count_by settled whole)
      (got_wants : (k : K) → gets R last later left k ≡ true → wants k ≡ true)
      (got_unsettled : (k : K) → gets R last later left k ≡ true → settled k ≡ false)
      (wants_later : (k : K) → wants k ≡ true → settled k ≡ false → (later k ≡ true) ⊎ (left ≡ 0)) where
    abbrev got : K → Bool
    got k = gets R last later left k

    abbrev both : K → Bool
    both k = settled k || got k

    -- ---- counts

    got_there : (k : K) → got k ≡ true → Has whole k
    got_there k g = all_there k (got_wants k g)

    got_last : (k : K) → got k ≡ true → Has last k
    got_last k g = later_there k (and_parts (later k) (nat_lt (rank_of R last later left k) left) g).0

    -- what passes another test and gets one is in both lists
    same_got : (test : K → Bool) → count_by (λ k. test k && got k) whole ≡ count_by (λ k. test k && got k) last
    same_got test =
        same_count o (λ k. test k && got k) (λ k. test k && got k) whole last up vp
        (λ k h t. (got_last k (and_parts (test k) (got k) t).1, t))
        (λ k h t. (got_there k (and_parts (test k) (got k) t).1, t))

    -- of those that pass a test, the settled ones and those that get one
    split : (test : K → Bool) → count_by (λ k. test k && both k) whole ≡ count_by (λ k. test k && settled k) whole + count_by (λ k. test k && got k) last
    split test =
        count_by-parts (λ k. test k && both k) settled whole
        ∙ (λ i. one i + other i)
      where
        first : (s t g : Bool) → (s && (t && (s || g))) ≡ (t && s)
        first true true g = refl
        first true false g = refl
        first false true g = refl
        first false false g = refl

        second : (s t g : Bool) → (g ≡ true → s ≡ false) → (not s && (t && (s || g))) ≡ (t && g)
        second true true true f = absurd (let no = f refl in cc)
        second true true false f = refl
        second true false g f = refl
        second false true g f = refl
        second false false g f = refl

        one : count_by (λ k. settled k && (test k && both k)) whole ≡ count_by (λ k. test k && settled k) whole
        one = count_by-same (λ k. settled k && (test k && both k)) (λ k. test k && settled k) whole (λ k h. first (settled k) (test k) (got k))

        other : count_by (λ k. not (settled k) && (test k && both k)) whole ≡ count_by (λ k. test k && got k) last
        other =
            count_by-same (λ k. not (settled k) && (test k && both k)) (λ k. test k && got k) whole (λ k h. second (settled k) (test k) (got k) (got_unsettled k))
            ∙ same_got test

    count-both : count_by both whole ≡ count_by settled whole + count_by got last
    count-both = split (λ k. true)

    got_few : count_by got last ≤ left
    got_few = let all = count-gets last vp later left in omega (arith, all)

    -- ---- how many get one

    -- those that want one and weren't settled
    abbrev wants_new : K → Bool
    wants_new k = not (settled k) && wants k

    count-wants : count_by wants whole ≡ count_by settled whole + count_by wants_new whole
    count-wants =
        count_by-parts wants settled whole
        ∙ ap (λ n. n + count_by wants_new whole)
        (count_by-same (λ k. settled k && wants k) settled whole (λ k h. by (settled k) (wants k) (settled_wants k)))
      where
        by : (s w : Bool) → (s ≡ true → w ≡ true) → (s && w) ≡ s
        by true w f = f refl
        by false w f = refl

    not_settled : (b : Bool) → not b ≡ true → b ≡ false
    not_settled true e = absurd (cc)
    not_settled false e = refl

    got_new : count_by got last ≤ count_by wants_new whole
    got_new =
        let more : count_by got whole ≤ count_by wants_new whole
        = count_by-weaker got wants_new (λ k g. and_from (not (settled k)) (wants k) (ap not (got_unsettled k g)) (got_wants k g)) whole in
        let same = same_got (λ k. true) in
        omega (arith, more, same)

    -- where there are any, each of these wants one in the end
    new_later : (left ≡ 0 → ⊥) → count_by wants_new whole ≤ count_by later last
    new_later some =
        let same : count_by wants_new whole ≡ count_by wants_new last
        = same_count o wants_new wants_new whole last up vp
        (λ k h t. (later_there k (wanting k t), t))
        (λ k h t. (all_there k (and_parts (not (settled k)) (wants k) t).1, t)) in
        let more = count_by-weaker wants_new later wanting last in
        omega (arith, same, more)
      where
        wanting : (k : K) → wants_new k ≡ true → later k ≡ true
        wanting k t =
            let both = and_parts (not (settled k)) (wants k) t in
            elim (wants_later k both.1 (not_settled (settled k) both.0)) [ inl l ↦ l | inr e ↦ absurd (some e) ]

    -- as many get one in the whole as were settled and get one in the end
    pub count_gets_are : count_by (gets R whole wants many) whole ≡ count_by settled whole + count_by (gets R last later left) last
    count_gets_are =
        let all = count-gets whole up wants many in
        let own = count-gets last vp later left in
        elim (cases_eq left 0) [
          | inl none ↦ omega (arith, all, own, count-wants, messages, none)
          | inr some ↦ (let fewer = new_later some in omega (arith, all, own, count-wants, messages, got_new, fewer))
        ]

    -- ---- who gets one, where those that get none stand after all settled ones

    module _ (lost_behind : (k : K) → wants k ≡ true → settled k ≡ false → gets R last later left k ≡ false → (j : K) → settled j ≡ true → R j k ≡ Less) where
      -- ---- each that gets one in the whole was settled, or gets one in the end

      -- one that neither was settled nor gets one has all settled ones and all that get one before it
      full : (k : K) → wants k ≡ true → settled k ≡ false → got k ≡ false → many ≤ rank_of R whole wants many k
      full k w s g =
          omega (arith, messages, settled_below, parts, among, left_below)
        where
          parts : count_by (λ j. is_lt (R j k) && both j) whole ≡ count_by (λ j. is_lt (R j k) && settled j) whole + count_by (λ j. is_lt (R j k) && got j) last
          parts = split (λ j. is_lt (R j k))

          wants_one : (j : K) → both j ≡ true → wants j ≡ true
          wants_one j b = elim (or_cases (settled j) (got j) b) [ inl t ↦ settled_wants j t | inr t ↦ got_wants j t ]

          among : count_by (λ j. is_lt (R j k) && both j) whole ≤ rank_of R whole wants many k
          among =
              count_by-weaker (λ j. is_lt (R j k) && both j) (λ j. is_lt (R j k) && wants j)
              (λ j t. (let p = and_parts (is_lt (R j k)) (both j) t in and_from (is_lt (R j k)) (wants j) p.0 (wants_one j p.1))) whole

          settled_below : count_by settled whole ≤ count_by (λ j. is_lt (R j k) && settled j) whole
          settled_below =
              count_by-weaker settled (λ j. is_lt (R j k) && settled j)
              (λ j t. and_from (is_lt (R j k)) (settled j) (ap is_lt (lost_behind k w s g j t)) t) whole

          by_rank : nat_lt (rank_of R last later left k) left ≡ false → left ≤ count_by (λ j. is_lt (R j k) && got j) last
          by_rank f =
              let above = ltb-false (rank_of R last later left k) left f in
              let all = count-gets_below last vp later left k in
              omega (arith, above, all)

          not_got : later k ≡ true → nat_lt (rank_of R last later left k) left ≡ false
          not_got t = ap (λ b. b && nat_lt (rank_of R last later left k) left) (sym t) ∙ g

          left_below : left ≤ count_by (λ j. is_lt (R j k) && got j) last
          left_below = elim (wants_later k w s) [ inl t ↦ by_rank (not_got t) | inr e ↦ omega (arith, e) ]

      got_before : (k : K) → gets R whole wants many k ≡ true → both k ≡ true
      got_before k g =
          elim (cases_Bool (both k)) [ inl t ↦ t | inr f ↦ absurd (none f) ]
        where
          none : both k ≡ false → ⊥
          none f =
              let p = and_parts (wants k) (nat_lt (rank_of R whole wants many k) many) g in
              let below = ltb-true (rank_of R whole wants many k) many p.1 in
              let s = false_from_ne_true (settled k) (λ t. (let no : false ≡ true = sym f ∙ or_left (settled k) (got k) t in cc)) in
              let n = false_from_ne_true (got k) (λ t. (let no : false ≡ true = sym f ∙ or_right (settled k) (got k) t in cc)) in
              let above = full k p.0 s n in
              omega (arith, below, above)

      -- ---- and each of those gets one in the whole

      -- where one of them wants one, each smaller that wants one is one of them
      smaller_both : (j k : K) → R j k ≡ Less → both k ≡ true → wants j ≡ true → both j ≡ true
      smaller_both j k less b w =
          elim (cases_Bool (both j)) [ inl t ↦ t | inr f ↦ absurd (none f) ]
        where
          none : both j ≡ false → ⊥
          none f =
              let s = false_from_ne_true (settled j) (λ t. (let no : false ≡ true = sym f ∙ or_left (settled j) (got j) t in cc)) in
              let n = false_from_ne_true (got j) (λ t. (let no : false ≡ true = sym f ∙ or_right (settled j) (got j) t in cc)) in
              elim (or_cases (settled k) (got k) b) [
                | inl t ↦ not_less_itself o j (o.trans j k j less (lost_behind j w s n k t))
                | inr t ↦ (let below = ltb-true (rank_of R last later left k) left (and_parts (later k) (nat_lt (rank_of R last later left k) left) t).1 in
                    elim (wants_later j w s) [
                      | inl l ↦ (let no : false ≡ true = sym n ∙ smaller_gets last vp later left j k less l t in cc)
                      | inr e ↦ omega (arith, below, e)
                    ])
              ]

      both_gets : (k : K) → both k ≡ true → gets R whole wants many k ≡ true
      both_gets k b = and_from (wants k) (nat_lt (rank_of R whole wants many k) many) w (lt-ltb (rank_of R whole wants many k) many below)
        where
          w : wants k ≡ true
          w = elim (or_cases (settled k) (got k) b) [ inl t ↦ settled_wants k t | inr t ↦ got_wants k t ]

          among : rank_of R whole wants many k ≤ count_by (λ j. is_lt (R j k) && both j) whole
          among =
              count_by-weaker (λ j. is_lt (R j k) && wants j) (λ j. is_lt (R j k) && both j)
              (λ j t. (let p = and_parts (is_lt (R j k)) (wants j) t in and_from (is_lt (R j k)) (both j) p.0 (smaller_both j k (less_is (R j k) p.0) b p.1))) whole

          fewer : count_by (λ j. is_lt (R j k) && both j) whole < count_by both whole
          fewer =
              count_by-fewer (λ j. is_lt (R j k) && both j) both (λ j t. (and_parts (is_lt (R j k)) (both j) t).1) whole k (all_there k w)
              (ap (λ c. is_lt c && both k) (tied_itself o k)) b

          below : rank_of R whole wants many k < many
          below = omega (arith, among, fewer, count-both, got_few, messages)

      -- ---- so the whole is what was settled and what gets one in the end

      pub gets_are : (k : K) → gets R whole wants many k ≡ (settled k || gets R last later left k)
      gets_are k = one_test (gets R whole wants many k) (both k) (got_before k) (both_gets k)
