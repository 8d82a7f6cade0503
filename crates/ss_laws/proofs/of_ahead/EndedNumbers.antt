-- The numbers with which a chain ended: of each group that was given a message one, by rising SPRI.
use Rattle.std.proofs.Common.{◌≡◌, ◌⊎◌, inl, inr, ℕ, zero, suc, ◌+◌, ◌<◌, ◌≤◌, Bool, true, false, List, [], ◌∷◌, ◌++◌, length, map, refl, ap, subst, arith, length-append}
use Rattle.std.specs.Prelude.{◌==◌, ◌||◌, not, if◌then◌else◌}
use Rattle.std.specs.List.{AllByRecursion, flat_map, range_with_len}
use Rattle.std.specs.List.Sorted.{IsStrictlySortedBy}
use Rattle.std.specs.declared.cmp.Ordering.TheVariants.{Less}
use Rattle.std.specs.Ordering.{nat_cmp}
use Rattle.std.proofs.lemmas.Bool.{eqb-true}
use Rattle.ss_origin.specs.declared.config.Config.{Config}
use Rattle.ss_origin.specs.declared.counters.NextNumber.{NextNumber}
use Rattle.ss_origin.specs.Counting.{names, number_in}
use Rattle.ss_origin.specs.Calls.{messages_of}
use Rattle.ss_origin.specs.State.{State, state, spris, next_number}
use Rattle.ss_origin.specs.Chain.{Turn, calls_of, start_behind, given_to}
use Rattle.ss_origin.specs.ChainLaws.{NumbersGoOn}
use Rattle.ss_review.proofs.of_lists.Keyed.{less}
use Rattle.ss_review.proofs.of_lists.Tests.{from_in_range}
use Rattle.ss_octets.proofs.Members.{Has, from_has-flat_map}

abbrev pub spri_of : NextNumber → ℕ
spri_of n = n.spri

-- the groups' next numbers after a chain
abbrev pub ended_numbers : Config → List (List Turn) → List NextNumber
ended_numbers c chain = (start_behind c chain).counters.groups

-- ---- they rise

module _ (s : State) where
  abbrev told : ℕ → ℕ → List NextNumber
  told a n = flat_map (next_number s) (range_with_len a n)

  abbrev if_known : Bool → ℕ → List NextNumber
  if_known b spri = if b then record { spri = spri; number = (s.groups spri).number } ∷ [] else []

  least_told : (n a b : ℕ) → b < a → AllByRecursion (λ k. nat_cmp b k ≡ Less) (map spri_of (told a n))
  least_told zero a b below = tt
  least_told (suc n) a b below = by (s.groups a).known (least_told n (a + 1) b (omega arith))
    where
      by : (v : Bool) → AllByRecursion (λ k. nat_cmp b k ≡ Less) (map spri_of (told (a + 1) n)) → AllByRecursion (λ k. nat_cmp b k ≡ Less) (map spri_of (if_known v a ++ told (a + 1) n))
      by true rest = (less b a below, rest)
      by false rest = rest

  told_rise : (n a : ℕ) → IsStrictlySortedBy nat_cmp (map spri_of (told a n))
  unfolding IsStrictlySortedBy
  told_rise zero a = tt
  told_rise (suc n) a = by (s.groups a).known (least_told n (a + 1) a (omega arith)) (told_rise n (a + 1))
    where
      by : (v : Bool) → AllByRecursion (λ k. nat_cmp a k ≡ Less) (map spri_of (told (a + 1) n)) → IsStrictlySortedBy nat_cmp (map spri_of (told (a + 1) n))
          → IsStrictlySortedBy nat_cmp (map spri_of (if_known v a ++ told (a + 1) n))
      by true below rest = (below, rest)
      by false below rest = rest

pub numbers_rise : (c : Config) (chain : List (List Turn)) → IsStrictlySortedBy nat_cmp (map spri_of (ended_numbers c chain))
unfolding IsStrictlySortedBy
numbers_rise c [] = tt
numbers_rise c (turns ∷ before) = told_rise (state c (start_behind c before) (calls_of turns)) 192 0

-- ---- a group whose next number isn't 1 is named

named_at : (b : Bool) (n : NextNumber) (ns : List NextNumber) (spri : ℕ) → (n.spri == spri) ≡ b → 1 < (if b then n.number else number_in ns spri)
    → (1 < number_in ns spri → (m : NextNumber) × Has ns m × (m.spri ≡ spri) × (m.number ≡ number_in ns spri))
    → (m : NextNumber) × Has (n ∷ ns) m × (m.spri ≡ spri) × (m.number ≡ (if b then n.number else number_in ns spri))
named_at true n ns spri e more rest = (n, inl refl, eqb-true n.spri spri e, refl)
named_at false n ns spri e more rest = let w = rest more in (w.0, inr w.1, w.2, w.3)

pub named : (ns : List NextNumber) (spri : ℕ) → 1 < number_in ns spri → (m : NextNumber) × Has ns m × (m.spri ≡ spri) × (m.number ≡ number_in ns spri)
named [] spri more = absurd (omega (arith, more))
named (n ∷ ns) spri more = named_at (n.spri == spri) n ns spri refl more (named ns spri)

-- ---- a group that is named was given a message

-- what holds of a number with which a chain ended
pub record IsEnded (c : Config) (chain : List (List Turn)) (n : NextNumber) : Type 0 where
  pub small : n.spri < 192
  pub some : 1 ≤ length (given_to c n.spri chain)
  pub number : n.number ≡ 1 + length (given_to c n.spri chain)

name_at : (b : Bool) (n : NextNumber) (ns : List NextNumber) (spri : ℕ) → (n.spri == spri) ≡ b → (b || names ns spri) ≡ true
    → (names ns spri ≡ true → (m : NextNumber) × Has ns m × (m.spri ≡ spri)) → (m : NextNumber) × Has (n ∷ ns) m × (m.spri ≡ spri)
name_at true n ns spri e is rest = (n, inl refl, eqb-true n.spri spri e)
name_at false n ns spri e is rest = let w = rest is in (w.0, inr w.1, w.2)

name_of : (ns : List NextNumber) (spri : ℕ) → names ns spri ≡ true → (m : NextNumber) × Has ns m × (m.spri ≡ spri)
name_of [] spri is = absurd (let no : false ≡ true = is in cc)
name_of (n ∷ ns) spri is = name_at (n.spri == spri) n ns spri refl is (name_of ns spri)

some_of : (count : ℕ) → not (count == 0) ≡ true → 1 ≤ count
some_of zero is = absurd (let no : false ≡ true = is in cc)
some_of (suc n) is = omega arith

either : (a b : Bool) → (a || b) ≡ true → (a ≡ true) ⊎ (b ≡ true)
either true b is = inl refl
either false b is = inr is

known_of : (s : State) (v : Bool) (spri : ℕ) (n : NextNumber) → (s.groups spri).known ≡ v → Has (if_known s v spri) n → ((s.groups spri).known ≡ true) × (spri ≡ n.spri) × ((s.groups spri).number ≡ n.number)
known_of s true spri n e (inl same) = (e, ap spri_of same, ap (λ (m : NextNumber). m.number) same)
known_of s true spri n e (inr h) = absurd h
known_of s false spri n e h = absurd h

pub is_ended : NumbersGoOn → (c : Config) (chain : List (List Turn)) (n : NextNumber) → Has (ended_numbers c chain) n → IsEnded c chain n
is_ended go_on c [] n h = absurd h
is_ended go_on c (turns ∷ before) n h =
    let start = start_behind c before in
    let s = state c start (calls_of turns) in
    let v = from_has-flat_map (next_number s) spris n h in
    let k = known_of s (s.groups v.0).known v.0 n refl v.2 in
    let own : List (List ℕ) = messages_of c.grouping v.0 (calls_of turns) in
    let small : v.0 < 192 = (from_in_range 0 192 v.0 v.1).1 in
    let longer = length-append (given_to c v.0 before) own in
    let first = go_on c before v.0 small in
    let number_is = k.2 in
    let some : 1 ≤ length (given_to c v.0 (turns ∷ before)) = elim (either (names start.counters.groups v.0) (not (length own == 0)) k.0) [
      | inl is ↦ (
          let m = name_of start.counters.groups v.0 is in
          let older : 1 ≤ length (given_to c v.0 before) = subst (λ (q : ℕ). 1 ≤ length (given_to c q before)) m.2 (is_ended go_on c before m.0 m.1).some in
          omega (arith, older, longer))
      | inr is ↦ (let newer = some_of (length own) is in omega (arith, newer, longer))
    ] in
    let number : n.number ≡ 1 + length (given_to c v.0 (turns ∷ before)) = omega (arith, number_is, first, longer) in
    record {
      small = subst (λ (q : ℕ). q < 192) k.1 small;
      some = subst (λ (q : ℕ). 1 ≤ length (given_to c q (turns ∷ before))) k.1 some;
      number = subst (λ (q : ℕ). n.number ≡ 1 + length (given_to c q (turns ∷ before))) k.1 number;
    }
