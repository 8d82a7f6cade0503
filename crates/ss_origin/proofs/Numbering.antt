-- Counters state the next numbers, which go on through a chain.
use Rattle.std.proofs.Common.{◌≡◌, inl, inr, ℕ, zero, suc, ◌+◌, ◌<◌, ◌≤◌, Bool, true, false, List, [], ◌∷◌, ◌++◌, length, refl, sym, ap, ◌∙◌, subst, arith, length-append}
use Rattle.std.specs.Prelude.{◌==◌, ◌||◌, not, if◌then◌else◌}
use Rattle.std.specs.List.{flat_map, range_with_len}
use Rattle.std.proofs.lemmas.Bool.{eq-eqb, ne_eqb, eqb-true, or_parts, not-false, cases_eq}
use Rattle.ss_origin.specs.declared.config.Config.{Config}
use Rattle.ss_origin.specs.declared.counters.NextNumber.{NextNumber}
use Rattle.ss_origin.specs.Counting.{Start, names, number_in}
use Rattle.ss_origin.specs.Calls.{Call, messages_of}
use Rattle.ss_origin.specs.State.{State, state, next_number, counters_of}
use Rattle.ss_origin.specs.Chain.{calls_of, start_behind, given_to}
use Rattle.ss_origin.specs.ChainLaws.{NumbersGoOn}

-- ---- the numbers that counters state

module _ (s : State) where
  abbrev told : ℕ → ℕ → List NextNumber
  told a n = flat_map (next_number s) (range_with_len a n)

  abbrev if_known : Bool → ℕ → List NextNumber
  if_known b spri = if b then record { spri = spri; number = (s.groups spri).number } ∷ [] else []

  skipped : (b : Bool) (a spri : ℕ) (rest : List NextNumber) → (a ≡ spri → ⊥) → number_in (if_known b a ++ rest) spri ≡ number_in rest spri
  skipped true a spri rest ne = ap (λ b. if b then (s.groups a).number else number_in rest spri) (ne_eqb a spri ne)
  skipped false a spri rest ne = refl

  below_told : (n a spri : ℕ) → spri < a → number_in (told a n) spri ≡ 1
  below_told zero a spri below = refl
  below_told (suc n) a spri below =
      skipped (s.groups a).known a spri (told (a + 1) n) (λ e. omega arith) ∙ below_told n (a + 1) spri (omega arith)

  here_told : (b : Bool) (spri : ℕ) (rest : List NextNumber) → number_in rest spri ≡ 1 → number_in (if_known b spri ++ rest) spri ≡ (if b then (s.groups spri).number else 1)
  here_told true spri rest e = ap (λ b. if b then (s.groups spri).number else number_in rest spri) (eq-eqb spri spri refl)
  here_told false spri rest e = e

  number_told : (n a spri : ℕ) → a ≤ spri → spri < a + n → number_in (told a n) spri ≡ (if (s.groups spri).known then (s.groups spri).number else 1)
  number_told zero a spri least below = absurd (omega arith)
  number_told (suc n) a spri least below = elim (cases_eq a spri) [
    | inl e ↦
        subst (λ (b : ℕ). number_in (told b (suc n)) spri ≡ (if (s.groups spri).known then (s.groups spri).number else 1)) (sym e)
        (here_told (s.groups spri).known spri (told (spri + 1) n) (below_told n (spri + 1) spri (omega arith)))
    | inr ne ↦ skipped (s.groups a).known a spri (told (a + 1) n) ne ∙ number_told n (a + 1) spri (omega arith) (omega arith)
  ]

-- ---- the numbers that an originator counts

not_named : (numbers : List NextNumber) (spri : ℕ) → names numbers spri ≡ false → number_in numbers spri ≡ 1
not_named [] spri none = refl
not_named (n ∷ numbers) spri none =
    let parts = or_parts (n.spri == spri) (names numbers spri) none in
    ap (λ b. if b then n.number else number_in numbers spri) parts.0 ∙ not_named numbers spri parts.1

-- the number of a group that is neither named nor given a message is 1
number_known : (numbers : List NextNumber) (spri count : ℕ) (b : Bool) → (names numbers spri || not (count == 0)) ≡ b → (if b then number_in numbers spri + count else 1) ≡ number_in numbers spri + count
number_known numbers spri count true e = refl
number_known numbers spri count false e =
    let parts = or_parts (names numbers spri) (not (count == 0)) e in
    let first : number_in numbers spri ≡ 1 = not_named numbers spri parts.0 in
    let none : count ≡ 0 = eqb-true count 0 (not-false (count == 0) parts.1) in
    omega arith

pub counters_tell : (c : Config) (start : Start) (calls : List Call) (spri : ℕ) → spri < 192
    → number_in (counters_of (state c start calls)).groups spri ≡ number_in start.counters.groups spri + length (messages_of c.grouping spri calls)
counters_tell c start calls spri below =
    number_told (state c start calls) 192 0 spri (omega arith) (omega arith)
    ∙ number_known start.counters.groups spri (length (messages_of c.grouping spri calls)) ((state c start calls).groups spri).known refl

pub numbers_go_on : NumbersGoOn
numbers_go_on c [] spri below = refl
numbers_go_on c (turns ∷ before) spri below =
    let told_then = counters_tell c (start_behind c before) (calls_of turns) spri below in
    let before_then = numbers_go_on c before spri below in
    let longer = length-append (given_to c spri before) (messages_of c.grouping spri (calls_of turns)) in
    omega (arith, told_then, before_then, longer)
