-- Where an originator goes on by saved counters among others.
use Rattle.std.proofs.Common.{◌≡◌, ◌⊎◌, inl, inr, ℕ, ◌+◌, Bool, true, false, cond, not, ◌&&◌, ◌==◌, max, flat_map, List, [], ◌∷◌, ◌++◌, map, filter, refl, sym, ap, ◌∙◌, arith}
use Rattle.std.specs.Cmp.{Equal-is}
use Rattle.std.specs.Ordering.{is_eq}
use Rattle.std.specs.List.{AllByRecursion, list_any}
use Rattle.std.proofs.lemmas.Bool.{and_from, and_right, eqb-true, eq-eqb, false_from_ne_true, not_from_true, or_from, true≢false}
use Rattle.std.proofs.lemmas.Cmp.{tied_itself}
use Rattle.ss_block.specs.declared.block.Group.{Group}
use Rattle.ss_block.specs.declared.session.Session.{Session}
use Rattle.ss_block.specs.Order.{group_cmp}
use Rattle.ss_block.specs.OrderLaws.{group_cmp_exact, group_cmp_total}
use Rattle.ss_origin.specs.declared.counters.Counters.{Counters}
use Rattle.ss_origin.specs.declared.counters.NextNumber.{NextNumber}
use Rattle.ss_origin.specs.declared.grouping.Grouping.{Grouping}
use Rattle.ss_origin.specs.Groups.{group_of, has_group, sg_of}
use Rattle.ss_origin.specs.State.{spris}
use Rattle.ss_review.specs.declared.counted.counter.Counter.{Counter}
use Rattle.ss_review.specs.declared.counted.counter.Counts.TheVariants.{Blocks, Messages}
use Rattle.ss_review.specs.counted.Kept.{blocks_said, number_said, gbc_in, number_in, kept_gbc, kept_number}
use Rattle.ss_review.specs.report.Entries.{same_group}
use Rattle.ss_review.specs.sessions.Sessions.{same_session}
use Rattle.ss_review.proofs.of_counters.Shortfalls.{same_is}
use Rattle.ss_answers.specs.declared.counters.start_fault.StartFault.{StartFault}
use Rattle.ss_answers.specs.declared.counters.start_fault.StartFault.TheVariants as starts
use Rattle.ss_answers.specs.Start.{IsStartFault, is_in, is_of_blocks, is_of_other, number_if_said, start_of}
use Rattle.ss_answers.proofs.Starts.{none_is_first}
use Rattle.ss_laws.specs.plans.ReadBack.{number_saved, saved, saved_among, number_of, greater, AreNoGreater}
use Rattle.ss_laws.proofs.of_plans.Greatest.{greatest, greatest_more, of_all, any_there, any_among}
use Rattle.ss_laws.proofs.of_plans.SavedNumbers.{IsOwn, RiseFrom, AreInRange, none_below, number_here, number_behind, numbers_again}

module _ (s : Session) (grouping : Grouping) where
  abbrev sg : ℕ
  sg = sg_of grouping

  abbrev own : Counter → Bool
  own c = same_session c.session s

  itself : same_session s s ≡ true
  itself = same_is s s refl

  -- ---- they are all of the session

  own_numbers : (numbers : List NextNumber) → filter own (map (number_saved s sg) numbers) ≡ map (number_saved s sg) numbers
  own_numbers [] = refl
  own_numbers (n ∷ numbers) =
      ap (λ b. cond b (number_saved s sg n ∷ filter own (map (number_saved s sg) numbers)) (filter own (map (number_saved s sg) numbers))) itself
      ∙ ap (λ rest. number_saved s sg n ∷ rest) (own_numbers numbers)

  own_saved : (k : Counters) → filter own (saved s sg k) ≡ saved s sg k
  own_saved k =
      let first : Counter = record { session = s; counts = Blocks; next = k.gbc } in
      let rest : List Counter = map (number_saved s sg) k.groups in
      ap (λ b. cond b (first ∷ filter own rest) (filter own rest)) itself ∙ ap (λ cs. first ∷ cs) (own_numbers k.groups)

  -- ---- what they say of blocks

  abbrev blocks : Counter → ℕ
  blocks c = blocks_said c.counts c.next

  no_blocks : (numbers : List NextNumber) → greatest blocks (map (number_saved s sg) numbers) ≡ 0
  no_blocks [] = refl
  no_blocks (n ∷ numbers) =
      let more : greatest blocks (map (number_saved s sg) (n ∷ numbers)) ≡ max 0 (greatest blocks (map (number_saved s sg) numbers))
      = greatest_more 0 (map blocks (map (number_saved s sg) numbers)) in
      let rest = no_blocks numbers in
      omega (arith, more, rest)

  blocks_of_saved : (k : Counters) → greatest blocks (saved s sg k) ≡ k.gbc
  blocks_of_saved k =
      let more : greatest blocks (saved s sg k) ≡ max k.gbc (greatest blocks (map (number_saved s sg) k.groups))
      = greatest_more k.gbc (map blocks (map (number_saved s sg) k.groups)) in
      let rest = no_blocks k.groups in
      omega (arith, more, rest)

  gbc_among : (k : Counters) (before behind : List Counter) → kept_gbc (saved_among s sg k before behind) s ≡ max k.gbc (kept_gbc (before ++ behind) s)
  unfolding gbc_in
  gbc_among k before behind =
      of_all blocks own before (saved s sg k) behind (own_saved k)
      ∙ ap (λ n. max n (greatest blocks (filter own (before ++ behind)))) (blocks_of_saved k)

  -- ---- what they say of a group

  abbrev group : ℕ → Group
  group spri = group_of grouping spri

  abbrev numbers_of : ℕ → Counter → ℕ
  numbers_of spri c = number_said (group spri) c.counts c.next

  group_itself : (a b : ℕ) → a ≡ b → same_group (group a) (group b) ≡ true
  group_itself a b e = ap (λ r. is_eq (group_cmp (group r) (group b))) e ∙ ap is_eq (tied_itself group_cmp_total (group b))

  group_apart : (a b : ℕ) → (a ≡ b → ⊥) → same_group (group a) (group b) ≡ false
  group_apart a b apart =
      false_from_ne_true (same_group (group a) (group b))
      (λ e. apart (ap (λ g. g.spri) (group_cmp_exact (group a) (group b) ((Equal-is (group_cmp (group a) (group b))).0 e))))

  number_of_saved : (a spri : ℕ) (numbers : List NextNumber) → RiseFrom a numbers → greatest (numbers_of spri) (map (number_saved s sg) numbers) ≡ number_of numbers spri
  number_of_saved a spri [] rise = refl
  number_of_saved a spri (n ∷ numbers) rise =
      greatest_more (numbers_of spri (number_saved s sg n)) (map (numbers_of spri) (map (number_saved s sg) numbers))
      ∙ by (n.spri == spri) refl (number_of_saved (n.spri + 1) spri numbers rise.1)
    where
      by : (b : Bool) → (n.spri == spri) ≡ b → greatest (numbers_of spri) (map (number_saved s sg) numbers) ≡ number_of numbers spri
          → max (numbers_of spri (number_saved s sg n)) (greatest (numbers_of spri) (map (number_saved s sg) numbers)) ≡ number_of (n ∷ numbers) spri
      by true e rest =
          let same : n.spri ≡ spri = eqb-true n.spri spri e in
          let here : numbers_of spri (number_saved s sg n) ≡ n.number = ap (λ b. cond b n.number 0) (group_itself n.spri spri same) in
          let none : number_of numbers spri ≡ 0 = none_below (n.spri + 1) spri numbers (omega (arith, same)) rise.1 in
          let told : number_of (n ∷ numbers) spri ≡ n.number = number_here n numbers spri same in
          omega (arith, here, none, told, rest)
      by false e rest =
          let apart : n.spri ≡ spri → ⊥ = λ same. true≢false (sym (eq-eqb n.spri spri same) ∙ e) in
          let here : numbers_of spri (number_saved s sg n) ≡ 0 = ap (λ b. cond b n.number 0) (group_apart n.spri spri apart) in
          let told : number_of (n ∷ numbers) spri ≡ number_of numbers spri = number_behind n numbers spri apart in
          omega (arith, here, told, rest)

  number_among : (k : Counters) (before behind : List Counter) → RiseFrom 0 k.groups → (spri : ℕ)
      → kept_number (saved_among s sg k before behind) s (group spri) ≡ max (number_of k.groups spri) (kept_number (before ++ behind) s (group spri))
  unfolding number_in
  number_among k before behind rise spri =
      let first : Counter = record { session = s; counts = Blocks; next = k.gbc } in
      let rest : List Counter = map (number_saved s sg) k.groups in
      let of_saved : greatest (numbers_of spri) (saved s sg k) ≡ number_of k.groups spri
      = (greatest_more 0 (map (numbers_of spri) rest) ∙ ap (max 0) (number_of_saved 0 spri k.groups rise) ∙ max_0 (number_of k.groups spri)) in
      of_all (numbers_of spri) own before (saved s sg k) behind (own_saved k)
      ∙ ap (λ n. max n (greatest (numbers_of spri) (filter own (before ++ behind)))) of_saved
    where
      max_0 : (n : ℕ) → max 0 n ≡ n
      max_0 n = omega arith

  -- ---- where it goes on

  pub goes_on_at_greater : (k : Counters) (before behind : List Counter) → RiseFrom 0 k.groups
      → start_of s grouping (saved_among s sg k before behind) ≡ greater s grouping k (before ++ behind)
  goes_on_at_greater k before behind rise = λ i. record {
    gbc = gbc_among k before behind i;
    groups = flat_map (λ spri. number_if_said spri (number_among k before behind rise spri i)) spris;
  }

  pub greater_is_same : (k : Counters) (others : List Counter) → AreInRange grouping k → AreNoGreater s grouping k others → greater s grouping k others ≡ k
  greater_is_same k others ranges no_greater =
      let numbers = numbers_again grouping (λ spri. max (number_of k.groups spri) (kept_number others s (group spri))) 192 0 k.groups (omega arith) ranges.rise ranges.own (λ spri low high. (let most = no_greater.numbers spri high in omega (arith, most))) in
      let gbc : max k.gbc (kept_gbc others s) ≡ k.gbc = (let most = no_greater.gbc in omega (arith, most)) in
      λ i. record { gbc = gbc i; groups = numbers i }

  -- ---- what isn't refused

  none_other : (numbers : List NextNumber) → AllByRecursion (IsOwn grouping) numbers → list_any (is_of_other s grouping) (map (number_saved s sg) numbers) ≡ false
  none_other [] all = refl
  none_other (n ∷ numbers) all =
      let has : is_in grouping (Messages (record { sg = sg; spri = n.spri })) ≡ true = and_from (sg == sg) (has_group grouping n.spri) (eq-eqb sg sg refl) all.0.had in
      or_from (is_of_other s grouping (number_saved s sg n)) (list_any (is_of_other s grouping) (map (number_saved s sg) numbers))
      (and_right (same_session s s) (not (is_in grouping (Messages (record { sg = sg; spri = n.spri })))) (not_from_true _ has))
      (none_other numbers all.1)

  pub none_saved : (k : Counters) → AreInRange grouping k → list_any (is_of_other s grouping) (saved s sg k) ≡ false
  none_saved k ranges =
      or_from (same_session s s && false) (list_any (is_of_other s grouping) (map (number_saved s sg) k.groups)) (and_right (same_session s s) false refl) (none_other k.groups ranges.own)

  has_blocks : (k : Counters) (before behind : List Counter) → list_any (is_of_blocks s) (saved_among s sg k before behind) ≡ true
  has_blocks k before behind =
      any_there (is_of_blocks s) before (record { session = s; counts = Blocks; next = k.gbc }) (map (number_saved s sg) k.groups ++ behind) (and_from (same_session s s) true itself refl)

  pub refused_for_others : (k : Counters) (before behind : List Counter) → AreInRange grouping k → (fault : StartFault) → IsStartFault s grouping (saved_among s sg k before behind) fault
      → (fault ≡ starts.Memory) ⊎ (list_any (is_of_other s grouping) (before ++ behind) ≡ true)
  refused_for_others k before behind ranges starts.NoSession is = absurd (true≢false (sym (has_blocks k before behind) ∙ is))
  refused_for_others k before behind ranges (starts.OtherGroup line) is = by (list_any (is_of_other s grouping) (before ++ behind)) refl
    where
      by : (b : Bool) → list_any (is_of_other s grouping) (before ++ behind) ≡ b → (starts.OtherGroup line ≡ starts.Memory) ⊎ (b ≡ true)
      by true e = inr refl
      by false e =
          let none : list_any (is_of_other s grouping) (saved_among s sg k before behind) ≡ false
          = any_among (is_of_other s grouping) before (saved s sg k) behind (none_saved k ranges) ∙ e in
          absurd (none_is_first s grouping (saved_among s sg k before behind) line none is.1)
  refused_for_others k before behind ranges starts.Memory is = inl refl
