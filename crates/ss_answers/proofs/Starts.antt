-- Where an originator goes on by counters: the first that is of another group is one, and without such a counter an
-- originator can start there.
use Rattle.std.proofs.Common.{◌≡◌, ℕ, zero, suc, ◌+◌, ◌<◌, ◌≤◌, Bool, true, false, cond, List, [], ◌∷◌, ◌++◌, length, get_or, take, drop, map, fold, refl, sym, ap, ◌∙◌, arith}
use Rattle.std.specs.Prelude.{◌==◌, ◌&&◌, ◌||◌, not, max, nat_le, nat_lt, All}
use Rattle.std.specs.List.{AllByRecursion, flat_map, list_all, list_any, range_with_len}
use Rattle.std.specs.Cmp.{Equal-is}
use Rattle.std.proofs.Math.Seq.{split_at}
use Rattle.std.proofs.lemmas.Bool.{le-leb, lt-ltb, and_from, or_parts}
use Rattle.std.proofs.lemmas.List.{length-take-le, take_more}
use Rattle.std.proofs.lemmas.List.Elements.{filter-append, recursion_from_All}
use Rattle.std.proofs.lemmas.List.Folds.{list_any-append, list_any_more}
use Rattle.ss_block.specs.declared.block.Group.{Group}
use Rattle.ss_block.specs.declared.session.Session.{Session}
use Rattle.ss_block.specs.Order.{group_cmp}
use Rattle.ss_block.specs.OrderLaws.{group_cmp_exact}
use Rattle.ss_block.specs.Ranges.{past_last_number}
use Rattle.ss_origin.specs.declared.counters.NextNumber.{NextNumber}
use Rattle.ss_origin.specs.declared.grouping.Grouping.{Grouping}
use Rattle.ss_origin.specs.Configs.{is_between}
use Rattle.ss_origin.specs.Counting.{rises, are_counters}
use Rattle.ss_origin.specs.Groups.{has_group, sg_of}
use Rattle.ss_review.specs.declared.counted.counter.Counter.{Counter}
use Rattle.ss_review.specs.declared.counted.counter.Counts.{Counts}
use Rattle.ss_review.specs.declared.counted.counter.Counts.TheVariants as counts
use Rattle.ss_review.specs.counted.CounterRange.{IsNext, IsCounter}
use Rattle.ss_review.specs.counted.Kept.{counters_of, blocks_said, number_said, gbc_in, number_in}
use Rattle.ss_review.specs.report.Entries.{same_group}
use Rattle.ss_review.specs.sessions.Sessions.{same_session}
use Rattle.ss_answers.specs.Start.{is_in, is_of_other, IsFirstOther, number_if_said, numbers_in, start_of}

-- ---- one counter more

-- the counters of a session so far, with the next one
pub own_more : (cs : List Counter) (i : ℕ) (x : Counter) (s : Session) → i < length cs → x ≡ get_or cs i x
    → counters_of (take (i + 1) cs) s ≡ counters_of (take i cs) s ++ counters_of (x ∷ []) s
own_more cs i x s below e =
    ap (λ xs. counters_of xs s) (take_more cs i x below ∙ ap (λ y. take i cs ++ y ∷ []) (sym e))
    ∙ filter-append (λ c. same_session c.session s) (take i cs) (x ∷ [])

-- ---- the first counter of another group

true_not_false : true ≡ false → ⊥
true_not_false e = absurd (cc)

and_false : (b d : Bool) → d ≡ false → (b && d) ≡ false
and_false true d e = e
and_false false d e = refl

not_false : (b : Bool) → not b ≡ false → b ≡ true
not_false true e = refl
not_false false e = absurd (true_not_false e)

-- in front of the first element that passes a test stand as many, however the list is cut there
as_long : {X : Type 0} (p : X → Bool) (a b : List X) (x y : X) (behind_a behind_b : List X) → a ++ x ∷ behind_a ≡ b ++ y ∷ behind_b
    → list_any p a ≡ false → p x ≡ true → list_any p b ≡ false → p y ≡ true → length a ≡ length b
as_long p [] [] x y behind_a behind_b e none_a is_x none_b is_y = refl
as_long p [] (z ∷ b) x y behind_a behind_b e none_a is_x none_b is_y =
    let same : x ≡ z = cc in
    absurd (true_not_false (sym is_x ∙ ap p same ∙ (or_parts (p z) (list_any p b) none_b).0))
as_long p (z ∷ a) [] x y behind_a behind_b e none_a is_x none_b is_y =
    let same : y ≡ z = cc in
    absurd (true_not_false (sym is_y ∙ ap p same ∙ (or_parts (p z) (list_any p a) none_a).0))
as_long p (z ∷ a) (w ∷ b) x y behind_a behind_b e none_a is_x none_b is_y =
    let rest : a ++ x ∷ behind_a ≡ b ++ y ∷ behind_b = cc in
    ap suc (as_long p a b x y behind_a behind_b rest (or_parts (p z) (list_any p a) none_a).1 is_x (or_parts (p w) (list_any p b) none_b).1 is_y)

module _ (s : Session) (grouping : Grouping) where
  abbrev other : Counter → Bool
  other = is_of_other s grouping

  -- none of those so far, and not the next one
  pub none_more : (cs : List Counter) (i : ℕ) (x : Counter) → i < length cs → x ≡ get_or cs i x → list_any other (take i cs) ≡ false → other x ≡ false
      → list_any other (take (i + 1) cs) ≡ false
  none_more cs i x below e none is =
      list_any_more other cs i x below ∙ ap (λ b. b || other (get_or cs i x)) none ∙ ap other (sym e) ∙ is

  -- none of those so far, but the next one
  pub first_there : (cs : List Counter) (i : ℕ) (x : Counter) → i < length cs → x ≡ get_or cs i x → list_any other (take i cs) ≡ false → other x ≡ true
      → IsFirstOther s grouping cs (i + 1)
  first_there cs i x below e none is = record {
    before = take i cs;
    other = get_or cs i x;
    behind = drop (suc i) cs;
    counters_are = split_at cs i x below;
    none_before = none;
    is_other = ap other (sym e) ∙ is;
    number_is = ap (λ n. n + 1) (sym (length-take-le i cs (omega (arith, below))));
  }

  -- there is none at all
  pub none_is_first : (cs : List Counter) (n : ℕ) → list_any other cs ≡ false → IsFirstOther s grouping cs n → ⊥
  none_is_first cs n none first =
      let all = list_any-append other first.before (first.other ∷ first.behind) in
      let is : list_any other (first.before ++ first.other ∷ first.behind) ≡ false = ap (list_any other) (sym first.counters_are) ∙ none in
      let parts = or_parts (list_any other first.before) (list_any other (first.other ∷ first.behind)) (sym all ∙ is) in
      let here = or_parts (other first.other) (list_any other first.behind) parts.1 in
      true_not_false (sym first.is_other ∙ here.0)

  -- there is one such place
  pub first_is_one : (cs : List Counter) (m n : ℕ) → IsFirstOther s grouping cs m → IsFirstOther s grouping cs n → m ≡ n
  first_is_one cs m n a b =
      a.number_is
      ∙ ap (λ k. k + 1) (as_long other a.before b.before a.other b.other a.behind b.behind (sym a.counters_are ∙ b.counters_are) a.none_before a.is_other b.none_before b.is_other)
      ∙ sym b.number_is

-- ---- an originator can start there

module _ (s : Session) (grouping : Grouping) where
  abbrev own : List Counter → List Counter
  own cs = counters_of cs s

  most_of_max : (a b : ℕ) → a ≤ past_last_number → b ≤ past_last_number → max a b ≤ past_last_number
  most_of_max a b x y = omega (arith, x, y)

  said_most : (g : Group) (c : Counter) → IsNext c.counts c.next → (blocks_said c.counts c.next ≤ past_last_number) × (number_said g c.counts c.next ≤ past_last_number)
  said_most g c next = by c.counts next
    where
      by : (k : Counts) → IsNext k c.next → (blocks_said k c.next ≤ past_last_number) × (number_said g k c.next ≤ past_last_number)
      by counts.Blocks is = (is, omega arith)
      by (counts.Messages h) is = (omega arith, if_most (same_group h g) is.2)
        where
          if_most : (b : Bool) → c.next ≤ past_last_number → cond b c.next 0 ≤ past_last_number
          if_most true most = most
          if_most false most = omega arith

  -- the greatest of what the counters of a session say is in range
  greatest_most : (f : Counter → ℕ) → ((c : Counter) → IsCounter c → f c ≤ past_last_number) → (cs : List Counter) → AllByRecursion IsCounter cs → (n : ℕ) → n ≤ past_last_number
      → fold max n (map f (own cs)) ≤ past_last_number
  greatest_most f within [] all n most = most
  greatest_most f within (c ∷ cs) all n most =
      by (same_session c.session s) (greatest_most f within cs all.1 (max n (f c)) (most_of_max n (f c) most (within c all.0))) (greatest_most f within cs all.1 n most)
    where
      by : (b : Bool) → fold max (max n (f c)) (map f (own cs)) ≤ past_last_number → fold max n (map f (own cs)) ≤ past_last_number
          → fold max n (map f (cond b (c ∷ own cs) (own cs))) ≤ past_last_number
      by true with without = with
      by false with without = without

  gbc_most : (cs : List Counter) → AllByRecursion IsCounter cs → gbc_in (own cs) ≤ past_last_number
  unfolding gbc_in
  gbc_most cs all = greatest_most (λ c. blocks_said c.counts c.next) (λ c is. (said_most (record { sg = 0; spri = 0 }) c is.next).0) cs all 0 (omega arith)

  abbrev group : ℕ → Group
  group spri = record { sg = sg_of grouping; spri = spri }

  abbrev says : ℕ → Counter → ℕ
  says spri c = number_said (group spri) c.counts c.next

  number_most : (spri : ℕ) (cs : List Counter) → AllByRecursion IsCounter cs → number_in (own cs) (group spri) ≤ past_last_number
  unfolding number_in
  number_most spri cs all = greatest_most (says spri) (λ c is. (said_most (group spri) c is.next).1) cs all 0 (omega arith)

  -- a counter of the session that isn't of another group says nothing of a group that the grouping hasn't
  nothing_said : (spri : ℕ) → has_group grouping spri ≡ false → (c : Counter) → is_in grouping c.counts ≡ true → number_said (group spri) c.counts c.next ≡ 0
  nothing_said spri hasnt c is = by c.counts is
    where
      by : (k : Counts) → is_in grouping k ≡ true → number_said (group spri) k c.next ≡ 0
      by counts.Blocks in_it = refl
      by (counts.Messages h) in_it = if_same (same_group h (group spri)) refl
        where
          if_same : (b : Bool) → same_group h (group spri) ≡ b → cond b c.next 0 ≡ 0
          if_same true e =
              let same : h ≡ group spri = group_cmp_exact h (group spri) ((Equal-is (group_cmp h (group spri))).0 e) in
              absurd (true_not_false (sym in_it ∙ ap (λ g. (g.sg == sg_of grouping) && has_group grouping g.spri) same ∙ and_false (sg_of grouping == sg_of grouping) (has_group grouping spri) hasnt))
          if_same false e = refl

  none_said : (spri : ℕ) → has_group grouping spri ≡ false → (cs : List Counter) → list_any (is_of_other s grouping) cs ≡ false
      → fold max 0 (map (says spri) (own cs)) ≡ 0
  none_said spri hasnt [] none = refl
  none_said spri hasnt (c ∷ cs) none =
      let parts = or_parts (is_of_other s grouping c) (list_any (is_of_other s grouping) cs) none in
      by (same_session c.session s) refl parts.0 (none_said spri hasnt cs parts.1)
    where
      by : (b : Bool) → same_session c.session s ≡ b → is_of_other s grouping c ≡ false → fold max 0 (map (says spri) (own cs)) ≡ 0
          → fold max 0 (map (says spri) (cond b (c ∷ own cs) (own cs))) ≡ 0
      by true e here rest =
          let is : is_in grouping c.counts ≡ true = not_false (is_in grouping c.counts) (sym (ap (λ b. b && not (is_in grouping c.counts)) e) ∙ here) in
          ap (λ n. fold max n (map (says spri) (own cs))) (ap (max 0) (nothing_said spri hasnt c is)) ∙ rest
      by false e here rest = rest

  -- what is said of a group is a number, of a group that the grouping has
  record IsSaid (spri number : ℕ) : Type 0 where
    most : number ≤ past_last_number
    had : 1 ≤ number → has_group grouping spri ≡ true

  abbrev said : List Counter → ℕ → ℕ
  said cs spri = number_in (own cs) (group spri)

  is_said : (cs : List Counter) → AllByRecursion IsCounter cs → list_any (is_of_other s grouping) cs ≡ false → (spri : ℕ) → IsSaid spri (said cs spri)
  unfolding number_in
  is_said cs all none spri = record { most = number_most spri cs all; had = by (has_group grouping spri) refl }
    where
      by : (b : Bool) → has_group grouping spri ≡ b → 1 ≤ said cs spri → b ≡ true
      by true e some = refl
      by false e some = let nothing : said cs spri ≡ 0 = none_said spri e cs none in absurd (omega (arith, some, nothing))

  module _ (number : ℕ → ℕ) (are_said : (spri : ℕ) → IsSaid spri (number spri)) where
    abbrev from : ℕ → ℕ → List NextNumber
    from a n = flat_map (λ spri. number_if_said spri (number spri)) (range_with_len a n)

    abbrev next : ℕ → ℕ → NextNumber
    next spri k = record { spri = spri; number = k }

    rise_behind : (n a : ℕ) (x : NextNumber) → x.spri < a → rises (x ∷ from a n) ≡ true
    rise_behind zero a x below = refl
    rise_behind (suc n) a x below =
        by (number a == 0) (rise_behind n (a + 1) (next a (number a)) (omega arith)) (rise_behind n (a + 1) x (omega (arith, below)))
      where
        by : (b : Bool) → rises (next a (number a) ∷ from (a + 1) n) ≡ true → rises (x ∷ from (a + 1) n) ≡ true
            → rises (x ∷ (cond b [] (next a (number a) ∷ []) ++ from (a + 1) n)) ≡ true
        by true with without = without
        by false with without = and_from (nat_lt x.spri a) (rises (next a (number a) ∷ from (a + 1) n)) (lt-ltb x.spri a below) with

    rise_from : (n a : ℕ) → rises (from a n) ≡ true
    rise_from zero a = refl
    rise_from (suc n) a = by (number a == 0) (rise_behind n (a + 1) (next a (number a)) (omega arith)) (rise_from n (a + 1))
      where
        by : (b : Bool) → rises (next a (number a) ∷ from (a + 1) n) ≡ true → rises (from (a + 1) n) ≡ true
            → rises (cond b [] (next a (number a) ∷ []) ++ from (a + 1) n) ≡ true
        by true with without = without
        by false with without = with

    abbrev may_be_told : NextNumber → Bool
    may_be_told k = has_group grouping k.spri && is_between 1 past_last_number k.number

    one_in_range : (a k : ℕ) → IsSaid a k → 1 ≤ k → may_be_told (next a k) ≡ true
    one_in_range a k is some =
        and_from (has_group grouping a) (is_between 1 past_last_number k) (is.had some)
        (and_from (nat_le 1 k) (nat_le k past_last_number) (le-leb 1 k some) (le-leb k past_last_number is.most))

    some : (k : ℕ) → (k == 0) ≡ false → 1 ≤ k
    some zero e = absurd (true_not_false e)
    some (suc k) e = omega arith

    all_from : (n a : ℕ) → list_all may_be_told (from a n) ≡ true
    all_from zero a = refl
    all_from (suc n) a = by (number a == 0) refl (all_from n (a + 1))
      where
        by : (b : Bool) → (number a == 0) ≡ b → list_all may_be_told (from (a + 1) n) ≡ true
            → list_all may_be_told (cond b [] (next a (number a) ∷ []) ++ from (a + 1) n) ≡ true
        by true e rest = rest
        by false e rest =
            and_from (may_be_told (next a (number a))) (list_all may_be_told (from (a + 1) n)) (one_in_range a (number a) (are_said a) (some (number a) e)) rest

  pub start_fits : (cs : List Counter) → All IsCounter cs → list_any (is_of_other s grouping) cs ≡ false → are_counters grouping (start_of s grouping cs) ≡ true
  unfolding are_counters
  start_fits cs counters none =
      let all = recursion_from_All IsCounter cs counters in
      let are_said = is_said cs all none in
      let groups = numbers_in (own cs) (sg_of grouping) in
      and_from (nat_le (gbc_in (own cs)) past_last_number && rises groups) (list_all (λ k. has_group grouping k.spri && is_between 1 past_last_number k.number) groups)
      (and_from (nat_le (gbc_in (own cs)) past_last_number) (rises groups) (le-leb (gbc_in (own cs)) past_last_number (gbc_most cs all)) (rise_from (said cs) are_said 192 0))
      (all_from (said cs) are_said 192 0)
