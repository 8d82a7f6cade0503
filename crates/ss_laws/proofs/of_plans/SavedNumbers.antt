-- Next numbers that rise, put together again from what they say of each group.
use Rattle.std.proofs.Common.{◌≡◌, ℕ, zero, suc, ◌+◌, ◌<◌, ◌≤◌, Bool, true, false, ◌&&◌, ◌==◌, List, [], ◌∷◌, ◌++◌, length, refl, sym, ap, ◌∙◌, subst, arith}
use Rattle.std.specs.Prelude.{nat_le, nat_lt, if◌then◌else◌}
use Rattle.std.specs.List.{AllByRecursion, flat_map, list_all, range_with_len}
use Rattle.std.proofs.lemmas.Bool.{and_parts, eqb-false, eqb-true, eq-eqb, leb-true, ltb-true, ne_eqb}
use Rattle.ss_block.specs.Ranges.{past_last_number}
use Rattle.ss_origin.specs.declared.counters.NextNumber.{NextNumber}
use Rattle.ss_origin.specs.declared.counters.Counters.{Counters}
use Rattle.ss_origin.specs.declared.grouping.Grouping.{Grouping}
use Rattle.ss_origin.specs.Configs.{is_between}
use Rattle.ss_origin.specs.Counting.{rises, are_counters}
use Rattle.ss_origin.specs.Groups.{has_group, is_grouping}
use Rattle.ss_answers.specs.Start.{number_if_said}
use Rattle.ss_origin.proofs.Groups.{group-most}
use Rattle.ss_laws.specs.plans.ReadBack.{number_of}

-- ---- counters in their ranges

-- a next number of a group that the grouping has
pub record IsOwn (grouping : Grouping) (n : NextNumber) : Type 0 where
  pub had : has_group grouping n.spri ≡ true
  pub spri : n.spri ≤ 191
  pub least : 1 ≤ n.number
  pub most : n.number ≤ past_last_number

-- SPRI rise, from this one on
abbrev pub RiseFrom : ℕ → List NextNumber → Type 0
RiseFrom a [] = Unit {0}
RiseFrom a (n ∷ numbers) = (a ≤ n.spri) × RiseFrom (n.spri + 1) numbers

pub record AreInRange (grouping : Grouping) (k : Counters) : Type 0 where
  pub gbc : k.gbc ≤ past_last_number
  pub rise : RiseFrom 0 k.groups
  pub own : AllByRecursion (IsOwn grouping) k.groups

rise_from : (a : ℕ) (numbers : List NextNumber) → rises numbers ≡ true → ((n : NextNumber) (rest : List NextNumber) → numbers ≡ n ∷ rest → a ≤ n.spri) → RiseFrom a numbers
rise_from a [] rise first = tt
rise_from a (n ∷ []) rise first = (first n [] refl, tt)
rise_from a (n ∷ m ∷ numbers) rise first =
    let parts = and_parts (nat_lt n.spri m.spri) (rises (m ∷ numbers)) rise in
    let below : n.spri < m.spri = ltb-true n.spri m.spri parts.0 in
    (first n (m ∷ numbers) refl, rise_from (n.spri + 1) (m ∷ numbers) parts.1 (λ p rest e. (let same : m ≡ p = cc in subst (λ (q : NextNumber). n.spri + 1 ≤ q.spri) same (omega (arith, below)))))

abbrev may_be_told : Grouping → NextNumber → Bool
may_be_told grouping n = has_group grouping n.spri && is_between 1 past_last_number n.number

own_each : (grouping : Grouping) → is_grouping grouping ≡ true → (numbers : List NextNumber) → list_all (may_be_told grouping) numbers ≡ true → AllByRecursion (IsOwn grouping) numbers
own_each grouping is [] all = tt
own_each grouping is (n ∷ numbers) all =
    let parts = and_parts (may_be_told grouping n) (list_all (may_be_told grouping) numbers) all in
    let here = and_parts (has_group grouping n.spri) (is_between 1 past_last_number n.number) parts.0 in
    let range = and_parts (nat_le 1 n.number) (nat_le n.number past_last_number) here.1 in (
      record {
        had = here.0;
        spri = group-most grouping n.spri is here.0;
        least = leb-true 1 n.number range.0;
        most = leb-true n.number past_last_number range.1;
      },
      own_each grouping is numbers parts.1,
    )

pub are_in_range : (grouping : Grouping) (k : Counters) → is_grouping grouping ≡ true → are_counters grouping k ≡ true → AreInRange grouping k
unfolding are_counters
are_in_range grouping k is are =
    let parts = and_parts (nat_le k.gbc past_last_number && rises k.groups) (list_all (may_be_told grouping) k.groups) are in
    let front = and_parts (nat_le k.gbc past_last_number) (rises k.groups) parts.0 in
    record {
      gbc = leb-true k.gbc past_last_number front.0;
      rise = rise_from 0 k.groups front.1 (λ n rest e. omega arith);
      own = own_each grouping is k.groups parts.1;
    }

-- ---- how many there are

pub few_numbers : (grouping : Grouping) (a : ℕ) (numbers : List NextNumber) → a ≤ 192 → RiseFrom a numbers → AllByRecursion (IsOwn grouping) numbers → a + length numbers ≤ 192
few_numbers grouping a [] small rise own = omega (arith, small)
few_numbers grouping a (n ∷ numbers) small rise own =
    let most : n.spri ≤ 191 = own.0.spri in
    let low : a ≤ n.spri = rise.0 in
    let rest : n.spri + 1 + length numbers ≤ 192 = few_numbers grouping (n.spri + 1) numbers (omega (arith, most)) rise.1 own.1 in
    omega (arith, low, rest)

-- ---- what they say of a group

-- nothing of a group below them
pub none_below : (a spri : ℕ) (numbers : List NextNumber) → spri < a → RiseFrom a numbers → number_of numbers spri ≡ 0
none_below a spri [] below rise = refl
none_below a spri (n ∷ numbers) below rise =
    let low : a ≤ n.spri = rise.0 in
    ap (λ b. if b then n.number else number_of numbers spri) (ne_eqb n.spri spri (λ e. omega (arith, low, below, e)))
    ∙ none_below (n.spri + 1) spri numbers (omega (arith, low, below)) rise.1

-- of the first one its number, and of others what the rest say
pub number_here : (n : NextNumber) (numbers : List NextNumber) (spri : ℕ) → n.spri ≡ spri → number_of (n ∷ numbers) spri ≡ n.number
number_here n numbers spri e = ap (λ b. if b then n.number else number_of numbers spri) (eq-eqb n.spri spri e)

pub number_behind : (n : NextNumber) (numbers : List NextNumber) (spri : ℕ) → (n.spri ≡ spri → ⊥) → number_of (n ∷ numbers) spri ≡ number_of numbers spri
number_behind n numbers spri apart = ap (λ b. if b then n.number else number_of numbers spri) (ne_eqb n.spri spri apart)

-- ---- put together again

told_none : (spri : ℕ) → number_if_said spri 0 ≡ []
told_none spri = refl

told_some : (spri number : ℕ) → 1 ≤ number → number_if_said spri number ≡ record { spri = spri; number = number } ∷ []
told_some spri number some =
    ap (λ b. if b then [] else record { spri = spri; number = number } ∷ []) (ne_eqb number 0 (λ e. omega (arith, some, e)))

module _ (grouping : Grouping) (said : ℕ → ℕ) where
  abbrev told : ℕ → ℕ → List NextNumber
  told a n = flat_map (λ spri. number_if_said spri (said spri)) (range_with_len a n)

  pub numbers_again : (n a : ℕ) (numbers : List NextNumber) → a + n ≡ 192 → RiseFrom a numbers → AllByRecursion (IsOwn grouping) numbers
      → ((spri : ℕ) → a ≤ spri → spri < 192 → said spri ≡ number_of numbers spri)
      → told a n ≡ numbers
  numbers_again zero a [] ends rise own says = refl
  numbers_again zero a (m ∷ numbers) ends rise own says =
      let most : m.spri ≤ 191 = own.0.spri in
      let low : a ≤ m.spri = rise.0 in
      absurd (omega (arith, most, low, ends))
  numbers_again (suc n) a [] ends rise own says =
      let none : said a ≡ 0 = says a (omega arith) (omega (arith, ends)) in
      ap (λ number. number_if_said a number ++ told (a + 1) n) none
      ∙ numbers_again n (a + 1) [] (omega (arith, ends)) tt tt (λ spri low high. says spri (omega (arith, low)) high)
  numbers_again (suc n) a (m ∷ numbers) ends rise own says =
      by (m.spri == a) refl (λ rest. numbers_again n (a + 1) rest (omega (arith, ends)))
    where
      below : a < 192
      below = omega (arith, ends)

      by : (b : Bool) → (m.spri == a) ≡ b
          → ((rest : List NextNumber) → RiseFrom (a + 1) rest → AllByRecursion (IsOwn grouping) rest
          → ((spri : ℕ) → a + 1 ≤ spri → spri < 192 → said spri ≡ number_of rest spri)
          → told (a + 1) n ≡ rest)
          → told a (suc n) ≡ m ∷ numbers
      by true e again =
          let same : m.spri ≡ a = eqb-true m.spri a e in
          let some : 1 ≤ m.number = own.0.least in
          let here : said a ≡ m.number = says a (omega arith) below ∙ number_here m numbers a same in
          ap (λ number. number_if_said a number ++ told (a + 1) n) here
          ∙ ap (λ front. front ++ told (a + 1) n) (told_some a m.number some)
          ∙ ap (λ spri. record { spri = spri; number = m.number } ∷ told (a + 1) n) (sym same)
          ∙ ap (λ rest. m ∷ rest) (again numbers (subst (λ spri. RiseFrom (spri + 1) numbers) same rise.1) own.1
          (λ spri low high. says spri (omega (arith, low)) high ∙ number_behind m numbers spri (λ at. omega (arith, low, same, at))))
      by false e again =
          let low : a ≤ m.spri = rise.0 in
          let apart : m.spri ≡ a → ⊥ = eqb-false m.spri a e in
          let above : a + 1 ≤ m.spri = omega (arith, low, apart) in
          let none : said a ≡ 0 = says a (omega arith) below ∙ none_below (a + 1) a (m ∷ numbers) (omega arith) (above, rise.1) in
          ap (λ number. number_if_said a number ++ told (a + 1) n) none
          ∙ again (m ∷ numbers) (above, rise.1) own (λ spri low high. says spri (omega (arith, low)) high)
