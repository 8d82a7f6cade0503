-- What lies below counters, as if nothing had been stored: the last of it comes just before them.
use Rattle.std.proofs.Common.{◌≡◌, inl, inr, ℕ, ◌+◌, ◌-◌, ◌<◌, ◌≤◌, ◌^◌, Bool, true, false, not, List, [], ◌∷◌, ◌++◌, map, filter, flat_map, fold, Bor, refl, sym, ap, ◌∙◌, subst, arith}
use Rattle.std.specs.Prelude.{max, nat_lt, if◌then◌else◌, All, Contains, Option, Some, None, MatchOption, is_some}
use Rattle.std.specs.Ordering.{is_eq}
use Rattle.std.specs.declared.cmp.Ordering.TheVariants.{Less}
use Rattle.std.specs.Cmp.{Equal-is}
use Rattle.std.specs.List.{list_any}
use Rattle.std.specs.List.Sorted.{IsStrictlySortedBy}
use Rattle.std.proofs.lemmas.Bool.{cases_lt, lt-ltb, ltb-true, ltb-false}
use Rattle.std.proofs.lemmas.Cmp.{tied_itself}
use Rattle.std.proofs.lemmas.List.{map-id}
use Rattle.std.proofs.lemmas.List.Elements.{All-contains, All-from_recursion}
use Rattle.std.proofs.lemmas.Simd.{map-map}
use Rattle.ss_block.specs.declared.block.Group.{Group}
use Rattle.ss_block.specs.declared.session.Session.{Session}
use Rattle.ss_block.specs.Order.{session_cmp, group_cmp}
use Rattle.ss_block.specs.OrderLaws.{session_cmp_total, session_cmp_exact, group_cmp_total, group_cmp_exact}
use Rattle.ss_review.specs.declared.counted.counter.Counter.{Counter}
use Rattle.ss_review.specs.declared.counted.counter.Counts.{Counts}
use Rattle.ss_review.specs.declared.counted.counter.Counts.TheVariants as counts
use Rattle.ss_review.specs.declared.counted.missing.MissingRun.{MissingRun}
use Rattle.ss_review.specs.declared.counted.shortfall.GroupTail.{GroupTail}
use Rattle.ss_review.specs.declared.counted.shortfall.Shortfall.{Shortfall}
use Rattle.ss_review.specs.declared.report.session_report.SessionReport.{SessionReport}
use Rattle.ss_review.specs.sessions.Sessions.{same_session}
use Rattle.ss_review.specs.report.Entries.{same_group}
use Rattle.ss_review.specs.counted.Counted.{missing}
use Rattle.ss_review.specs.counted.CountedLaws.{IsInRange}
use Rattle.ss_review.specs.counted.Kept.{counters_of, kept_sessions, kept_number, kept_gbc, blocks_said, number_said, gbc_in, number_in, groups_in, number_behind, tail_between, tails_in, end_of_blocks, shortfall, log_shortfalls, AreGroups, AreReviewed}
use Rattle.ss_between.specs.Between.{number_at, gbc_at, has_counter}
use Rattle.ss_between.specs.Bounds.{below_counters, AreBounds, number_past, gbc_past}
use Rattle.ss_octets.proofs.Members.{Has, has-map, has_from_contains, contains_from_has, from_has-map, has-filter, from_has-filter, has-flat_map, from_has-flat_map, all-has}
use Rattle.ss_review.proofs.of_counters.Fates.{group_kept}
use Rattle.ss_review.proofs.of_counters.KeptBlocks.{has_kept, session_kept}
use Rattle.ss_review.proofs.of_counters.Shortfalls.{same_is}
use Rattle.ss_review.proofs.of_lists.Rising.{all_below, rises-in_order}
use Rattle.ss_review.proofs.of_lists.Sections.{keeps_all}
use Rattle.ss_review.proofs.of_lists.Tests.{member_any}
use Rattle.ss_review.proofs.of_reports.EntriesMeant.{greatest_of}
use Rattle.ss_review.proofs.of_reports.EntriesRise.{fold_max-member}

pub group_is : (a b : Group) → same_group a b ≡ true → a ≡ b
group_is a b e = group_cmp_exact a b ((Equal-is (group_cmp a b)).0 e)

pub is_group : (a b : Group) → a ≡ b → same_group a b ≡ true
is_group a b e = ap (λ c. is_eq (group_cmp c b)) e ∙ ap is_eq (tied_itself group_cmp_total b)

-- ---- tails of groups, each from a number up to another one

pub record IsTail (g : Group) (first end : ℕ) (t : GroupTail) : Type 0 where
  pub some : first < end
  pub group_is : t.group ≡ g
  pub first_is : t.first ≡ first
  pub last_is : t.last ≡ end - 1

tail_at : (b : Bool) (g : Group) (first end : ℕ) (t : GroupTail) → nat_lt first end ≡ b → Has (if b then record { group = g; first = first; last = end - 1 } ∷ [] else []) t → IsTail g first end t
tail_at true g first end t e (inl i) = record {
  some = ltb-true first end e;
  group_is = ap (λ (u : GroupTail). u.group) (sym i);
  first_is = ap (λ (u : GroupTail). u.first) (sym i);
  last_is = ap (λ (u : GroupTail). u.last) (sym i);
}
tail_at true g first end t e (inr h) = absurd h
tail_at false g first end t e h = absurd h

pub tail_is : (g : Group) (first end : ℕ) (t : GroupTail) → Has (tail_between g first end) t → IsTail g first end t
tail_is g first end t h = tail_at (nat_lt first end) g first end t refl h

pub tail_here : (g : Group) (first end : ℕ) → first < end → Has (tail_between g first end) (record { group = g; first = first; last = end - 1 })
tail_here g first end less =
    let t : GroupTail = record { group = g; first = first; last = end - 1 } in
    subst (λ (b : Bool). Has (if b then t ∷ [] else []) t) (sym (lt-ltb first end less)) (inl refl)

abbrev pub of_tail : GroupTail → Group
of_tail t = t.group

module _ (from to : Group → ℕ) where
  abbrev pub tails_of : List Group → List GroupTail
  tails_of gs = flat_map (λ g. tail_between g (from g) (to g)) gs

  pub from_tails : (gs : List Group) (t : GroupTail) → Has (tails_of gs) t → (g : Group) × Has gs g × IsTail g (from g) (to g) t
  from_tails gs t h =
      let w = from_has-flat_map (λ g. tail_between g (from g) (to g)) gs t h in
      (w.0, w.1, tail_is w.0 (from w.0) (to w.0) t w.2)

  pub in_tails : (gs : List Group) (g : Group) → Has gs g → from g < to g → Has (tails_of gs) (record { group = g; first = from g; last = to g - 1 })
  in_tails gs g h less =
      has-flat_map (λ g. tail_between g (from g) (to g)) gs g (record { group = g; first = from g; last = to g - 1 }) h (tail_here g (from g) (to g) less)

  rise_at : (b : Bool) (g : Group) (first end : ℕ) (ts : List GroupTail) → ((t : GroupTail) → Has ts t → group_cmp g t.group ≡ Less) → IsStrictlySortedBy group_cmp (map of_tail ts)
      → IsStrictlySortedBy group_cmp (map of_tail ((if b then record { group = g; first = first; last = end - 1 } ∷ [] else []) ++ ts))
  unfolding IsStrictlySortedBy
  rise_at true g first end ts above up = (
    all_below (λ h. group_cmp g h ≡ Less) (map of_tail ts) (λ h i.
        (let w = from_has-map of_tail ts h i in
        subst (λ k. group_cmp g k ≡ Less) w.2 (above w.0 w.1))),
    up,
  )
  rise_at false g first end ts above up = up

  pub tails_rise : (gs : List Group) → IsStrictlySortedBy group_cmp gs → IsStrictlySortedBy group_cmp (map of_tail (tails_of gs))
  unfolding IsStrictlySortedBy
  tails_rise [] up = tt
  tails_rise (g ∷ gs) up =
      rise_at (nat_lt (from g) (to g)) g (from g) (to g) (tails_of gs)
      (λ t h. (let w = from_tails gs t h in subst (λ k. group_cmp g k ≡ Less) (sym w.2.group_is) (all-has (λ k. group_cmp g k ≡ Less) gs w.0 up.0 w.1)))
      (tails_rise gs up.1)

-- ---- what counters say fits

most_of : (b : Bool) (n : ℕ) → (if b then n else 0) ≤ n
most_of true n = omega arith
most_of false n = omega arith

number_most : (g : Group) (k : Counts) (n : ℕ) → number_said g k n ≤ n
number_most g counts.Blocks n = omega arith
number_most g (counts.Messages h) n = most_of (same_group h g) n

gbc_most : (k : Counts) (n : ℕ) → blocks_said k n ≤ n
gbc_most counts.Blocks n = omega arith
gbc_most (counts.Messages g) n = omega arith

abbrev IsSmall : ℕ → Type 0
IsSmall n = n < 2 ^ 64

abbrev AreSmall : List Counter → Type 0
AreSmall cs = All (λ c. c.next < 2 ^ 64) cs

kept_fits : (cs : List Counter) (s : Session) (f : Counter → ℕ) → ((c : Counter) → f c ≤ c.next) → AreSmall cs → IsSmall (fold max 0 (map f (counters_of cs s)))
kept_fits cs s f most fit =
    elim (cases_lt 0 (fold max 0 (map f (counters_of cs s)))) [
      | inl less ↦ (
          let w = has_kept cs s f 0 less in
          let m = most w.0 in
          let small : w.0.next < 2 ^ 64 = All-contains (λ (c : Counter). c.next < 2 ^ 64) cs w.0 fit (contains_from_has cs w.0 w.1) in
          omega (arith, m, small, w.3))
      | inr none ↦ omega (arith, none)
    ]

number_fits : (cs : List Counter) (s : Session) (g : Group) → AreSmall cs → IsSmall (kept_number cs s g)
unfolding number_in
number_fits cs s g fit = kept_fits cs s (λ c. number_said g c.counts c.next) (λ c. number_most g c.counts c.next) fit

gbc_fits : (cs : List Counter) (s : Session) → AreSmall cs → IsSmall (kept_gbc cs s)
unfolding gbc_in
gbc_fits cs s fit = kept_fits cs s (λ c. blocks_said c.counts c.next) (λ c. gbc_most c.counts c.next) fit

-- ---- what comes after what lies below the counters of a session

abbrev from_first : Group → ℕ
from_first g = number_behind [] g

abbrev past : GroupTail → ℕ
past t = t.last + 1

module _ (own : List Counter) where
  pub own_tails_rise : (gs : List _) → IsStrictlySortedBy group_cmp (map of_tail (tails_in own gs))
  unfolding tails_in groups_in
  own_tails_rise gs = tails_rise (number_behind gs) (number_in own) (groups_in own) (rises-in_order group_cmp_total group_cmp_exact _)

  tails_fit : ((g : Group) → IsSmall (number_in own g)) → All (λ t. t.last + 1 < 2 ^ 64) (tails_in own [])
  unfolding tails_in
  tails_fit fits =
      let ts = tails_of from_first (number_in own) (groups_in own) in
      All-from_recursion (λ (t : GroupTail). t.last + 1 < 2 ^ 64) ts (all_below (λ (t : GroupTail). t.last + 1 < 2 ^ 64) ts (λ t h.
      (let w = from_tails from_first (number_in own) (groups_in own) t h in
      let small = fits w.0 in
      let some = w.2.some in
      let last = w.2.last_is in
      omega (arith, small, some, last))))

  past_is : (g : Group) → number_past (tails_in own []) g ≡ max 1 (number_in own g)
  unfolding tails_in
  past_is g =
      let ts = tails_of from_first (number_in own) (groups_in own) in
      let mine : GroupTail → Bool = λ t. same_group t.group g in
      let its = filter mine ts in
      elim (greatest_of 1 (map past its)) [
        | inl one ↦ (elim (cases_lt 1 (number_in own g)) [
          | inl more ↦ (
              let t : GroupTail = record { group = g; first = 1; last = number_in own g - 1 } in
              let there : Has ts t = in_tails from_first (number_in own) (groups_in own) g (group_kept own g 1 more) more in
              let most : number_in own g - 1 + 1 ≤ fold max 1 (map past its) = fold_max-member 1 (map past its) (number_in own g - 1 + 1) (has-map past its t (has-filter mine ts t there (is_group g g refl))) in
              absurd (omega (arith, one, most, more)))
          | inr few ↦ omega (arith, one, few)
        ])
        | inr h ↦ (
            let w = from_has-map past its (fold max 1 (map past its)) h in
            let f = from_has-filter mine ts w.0 w.1 in
            let k = from_tails from_first (number_in own) (groups_in own) w.0 f.0 in
            let at : k.0 ≡ g = sym k.2.group_is ∙ group_is w.0.group g f.1 in
            let same : number_in own k.0 ≡ number_in own g = ap (number_in own) at in
            let some = k.2.some in
            let last = k.2.last_is in
            omega (arith, w.2, some, last, same))
      ]

  run_past : (b : Bool) (n : ℕ) → nat_lt 0 n ≡ b → gbc_past ((if b then record { first = 0; last = n - 1 } ∷ [] else []) ++ []) ≡ n
  run_past true n e = let some = ltb-true 0 n e in omega (arith, some)
  run_past false n e = let none = ltb-false 0 n e in omega (arith, none)

  gbc_past_is : gbc_past (missing [] (end_of_blocks own [])) ≡ gbc_in own
  unfolding missing
  gbc_past_is =
      let end = end_of_blocks own [] in
      let same : max 0 (gbc_in own) ≡ gbc_in own = omega arith in
      run_past (nat_lt 0 end) end refl ∙ same

  abbrev RunsFit : List MissingRun → Type 0
  RunsFit rs = All (λ r. r.last + 1 < 2 ^ 64) rs

  run_fits : (b : Bool) (n : ℕ) → nat_lt 0 n ≡ b → n < 2 ^ 64 → RunsFit ((if b then record { first = 0; last = n - 1 } ∷ [] else []) ++ [])
  run_fits true n e small =
      let some = ltb-true 0 n e in
      let fits : n - 1 + 1 < 2 ^ 64 = omega (arith, some, small) in
      All-from_recursion (λ (r : MissingRun). r.last + 1 < 2 ^ 64) (record { first = 0; last = n - 1 } ∷ []) (fits, tt)
  run_fits false n e small = All-from_recursion (λ (r : MissingRun). r.last + 1 < 2 ^ 64) [] tt

  runs_fit : IsSmall (gbc_in own) → RunsFit (missing [] (end_of_blocks own []))
  unfolding missing
  runs_fit small =
      let end = end_of_blocks own [] in
      let fits : end < 2 ^ 64 = omega (arith, small) in
      run_fits (nat_lt 0 end) end refl fits

-- ---- all sessions

abbrev of : Shortfall → Session
of f = f.session

module _ (cs : List Counter) where
  abbrev below_session : Session → Shortfall
  below_session s = shortfall cs s [] []

  below_is : below_counters cs ≡ map below_session (kept_sessions cs)
  unfolding log_shortfalls
  below_is =
      ap (map below_session)
      (keeps_all (λ (s : Session). not (list_any (same_session s) [])) (kept_sessions cs) (all_below (λ (s : Session). not (list_any (same_session s) []) ≡ true) (kept_sessions cs) (λ s h. refl)))

  sessions_are : map of (below_counters cs) ≡ kept_sessions cs
  sessions_are = ap (map of) below_is ∙ map-map of below_session (kept_sessions cs) ∙ map-id (kept_sessions cs)

  kept_rise : IsStrictlySortedBy session_cmp (kept_sessions cs)
  unfolding kept_sessions
  kept_rise = rises-in_order session_cmp_total session_cmp_exact (map (λ (c : Counter). c.session) cs)

  own_is : (f : Shortfall) → Contains (below_counters cs) f → f ≡ below_session f.session
  own_is f c =
      let w = from_has-map below_session (kept_sessions cs) f (subst (λ fs. Has fs f) below_is (has_from_contains (below_counters cs) f c)) in
      sym w.2 ∙ ap (λ (g : Shortfall). below_session g.session) w.2

  -- ---- a session that has no counter

  no_session : (s : Session) → has_counter cs s ≡ false → Has (kept_sessions cs) s → ⊥
  no_session s none h =
      let t = member_any (same_session s) (kept_sessions cs) s h (same_is s s refl) in
      let bad : true ≡ false = sym t ∙ none in
      absurd (cc)

  none_kept : (s : Session) (f : Counter → ℕ) → has_counter cs s ≡ false → fold max 0 (map f (counters_of cs s)) ≡ 0
  none_kept s f none =
      elim (cases_lt 0 (fold max 0 (map f (counters_of cs s)))) [
        | inl less ↦ (let w = has_kept cs s f 0 less in absurd (no_session s none (session_kept cs s w.0 w.1 w.2)))
        | inr few ↦ omega (arith, few)
      ]

  no_number : (s : Session) (g : Group) → has_counter cs s ≡ false → kept_number cs s g ≡ 0
  unfolding number_in
  no_number s g none = none_kept s (λ c. number_said g c.counts c.next) none

  no_gbc : (s : Session) → has_counter cs s ≡ false → kept_gbc cs s ≡ 0
  unfolding gbc_in
  no_gbc s none = none_kept s (λ c. blocks_said c.counts c.next) none

  -- ---- what the look-ups give, from all that lies below the counters

  module _ (below : List Shortfall) (are : AreBounds cs below) where
    pub rise : IsStrictlySortedBy session_cmp (map of below)
    rise = subst (IsStrictlySortedBy session_cmp) (sym (ap (map of) are.below_is ∙ sessions_are)) kept_rise

    pub is_absent : (s : Session) → list_any (same_session s) (map of below) ≡ false → has_counter cs s ≡ false
    is_absent s e = ap (list_any (same_session s)) (sym (ap (map of) are.below_is ∙ sessions_are)) ∙ e

    module _ (s : Session) (f : Shortfall) (there : Contains below f × (f.session ≡ s)) where
      its : f ≡ below_session s
      its = own_is f (subst (λ fs. Contains fs f) are.below_is there.0) ∙ ap below_session there.1

      pub is_present : has_counter cs s ≡ true
      is_present =
          let h : Has (kept_sessions cs) f.session = subst (λ ss. Has ss f.session) sessions_are (has-map of (below_counters cs) f (has_from_contains (below_counters cs) f (subst (λ fs. Contains fs f) are.below_is there.0))) in
          member_any (same_session s) (kept_sessions cs) f.session h (same_is s f.session (sym there.1))

      pub its_tails_rise : IsStrictlySortedBy group_cmp (map of_tail f.tails)
      its_tails_rise = subst (λ (x : Shortfall). IsStrictlySortedBy group_cmp (map of_tail x.tails)) (sym its) (own_tails_rise (counters_of cs s) [])

      pub its_tails_fit : All (λ t. t.last + 1 < 2 ^ 64) f.tails
      its_tails_fit = subst (λ (x : Shortfall). All (λ t. t.last + 1 < 2 ^ 64) x.tails) (sym its) (tails_fit (counters_of cs s) (λ g. number_fits cs s g are.fit))

      pub its_number : (g : Group) → number_past f.tails g ≡ number_at cs s g
      its_number g = ap (λ (x : Shortfall). number_past x.tails g) its ∙ past_is (counters_of cs s) g

      pub its_runs_fit : All (λ r. r.last + 1 < 2 ^ 64) f.blocks
      its_runs_fit = subst (λ (x : Shortfall). All (λ r. r.last + 1 < 2 ^ 64) x.blocks) (sym its) (runs_fit (counters_of cs s) (gbc_fits cs s are.fit))

      pub its_gbc : gbc_past f.blocks ≡ gbc_at cs s
      its_gbc = ap (λ (x : Shortfall). gbc_past x.blocks) its ∙ gbc_past_is (counters_of cs s)

    pub told : (o : Option (Bor Shortfall)) (s : Session) → MatchOption o (list_any (same_session s) (map of below) ≡ false) (λ f. Contains below f.now × (f.now.session ≡ s)) → is_some o ≡ has_counter cs s
    told None s none = sym (is_absent s none)
    told (Some f) s there = sym (is_present s f.now there)

    pub no_number_at : (s : Session) (g : Group) → list_any (same_session s) (map of below) ≡ false → 1 ≡ number_at cs s g
    no_number_at s g none = let e = no_number s g (is_absent s none) in omega (arith, e)

    pub no_gbc_at : (s : Session) → list_any (same_session s) (map of below) ≡ false → 0 ≡ gbc_at cs s
    no_gbc_at s none = sym (no_gbc s (is_absent s none))

-- ---- with nothing stored, nothing is reviewed

pub nothing_reviewed : AreReviewed [] []
unfolding IsStrictlySortedBy
nothing_reviewed = record {
  rise = tt;
  groups = All-from_recursion (λ (s : SessionReport). AreGroups s.groups) [] tt;
  gbcs = All-from_recursion IsInRange [] tt;
}
