-- The counters after the originators of a chain are in their ranges.
use Rattle.std.proofs.Common.{◌≡◌, ℕ, zero, suc, ◌+◌, ◌<◌, ◌≤◌, Bool, true, false, List, [], ◌∷◌, ◌++◌, length, refl, sym, ap, ◌∙◌, subst, arith}
use Rattle.std.specs.Prelude.{◌==◌, ◌&&◌, ◌||◌, not, nat_le, nat_lt, if◌then◌else◌, Option, Some, None}
use Rattle.std.specs.List.{flat_map, range_with_len, list_all}
use Rattle.std.proofs.lemmas.Bool.{eqb-true, ltb-false, leb-false, leb-true, le-leb, lt-ltb, and_parts, and_from}
use Rattle.ss_message.specs.Stamp.{Moment}
use Rattle.ss_message.specs.Laws.{FaultsAreOfNoMessage}
use Rattle.ss_block.specs.Hashes.{hash_of}
use Rattle.ss_block.specs.Reading.{reading}
use Rattle.ss_origin.specs.declared.config.Config.{Config}
use Rattle.ss_origin.specs.declared.counters.NextNumber.{NextNumber}
use Rattle.ss_origin.specs.declared.fault.OriginFault.{OriginFault}
use Rattle.ss_origin.specs.declared.fault.OriginFault.TheVariants.{NotBegun, NotSyslog, HasBlock, NumbersSpent, CounterSpent}
use Rattle.ss_origin.specs.declared.grouping.Grouping.{Grouping}
use Rattle.ss_origin.specs.Groups.{has_group, is_grouping}
use Rattle.ss_origin.specs.Configs.{is_between, is_config}
use Rattle.ss_origin.specs.Counting.{Start, anew, names, number_in, rises, are_counters}
use Rattle.ss_origin.specs.Calls.{Call, Begin, Submit, Flush, spri_in}
use Rattle.ss_origin.specs.State.{GroupState, State, state, pending_in, runs_closed, next_number, counters_of}
use Rattle.ss_origin.specs.Step.{group_with, groups_after, after}
use Rattle.ss_origin.specs.Setting.{Setting}
use Rattle.ss_origin.specs.Refusals.{is_unparsed, is_plain, is_counter_spent, fault_of}
use Rattle.ss_origin.specs.Chain.{Turn, calls_of, AreTurns, start_behind, AreChained}
use Rattle.ss_origin.specs.ChainLaws.{CountersStayInRange, ChainsCanBeResumed}
use Rattle.ss_origin.proofs.Configs.{has_ranges}
use Rattle.ss_origin.proofs.Groups.{messages_have_groups}
use Rattle.ss_origin.proofs.Steps.{states_step}

-- ---- faults that don't apply

pub none_first : (b : Bool) (fault : OriginFault) (rest : Option OriginFault) → (if b then Some fault else rest) ≡ None → (b ≡ false) × (rest ≡ None)
none_first true fault rest e = absurd (cc)
none_first false fault rest e = (refl, e)

-- ---- counters in range

-- a group that counters may name
record IsCounted (grouping : Grouping) (spri : ℕ) (g : GroupState) : Type 0 where
  least : 1 ≤ g.number
  most : g.number ≤ 10000000000
  had : g.known ≡ true → has_group grouping spri ≡ true

record AreCounted (grouping : Grouping) (s : State) : Type 0 where
  gbc : s.gbc ≤ 10000000000
  groups : (spri : ℕ) → IsCounted grouping spri (s.groups spri)

-- ---- what they state is counters in range

module _ (grouping : Grouping) (s : State) (groups : (spri : ℕ) → IsCounted grouping spri (s.groups spri)) where
  abbrev told_from : ℕ → ℕ → List NextNumber
  told_from a n = flat_map (next_number s) (range_with_len a n)

  abbrev one : ℕ → NextNumber
  one spri = record { spri = spri; number = (s.groups spri).number }

  rise_behind : (n a : ℕ) (x : NextNumber) → x.spri < a → rises (x ∷ told_from a n) ≡ true
  rise_behind zero a x below = refl
  rise_behind (suc n) a x below =
      by (s.groups a).known (rise_behind n (a + 1) (one a) (omega arith)) (rise_behind n (a + 1) x (omega arith))
    where
      by : (b : Bool) → rises (one a ∷ told_from (a + 1) n) ≡ true → rises (x ∷ told_from (a + 1) n) ≡ true
          → rises (x ∷ ((if b then one a ∷ [] else []) ++ told_from (a + 1) n)) ≡ true
      by true with without = and_from (nat_lt x.spri a) (rises (one a ∷ told_from (a + 1) n)) (lt-ltb x.spri a below) with
      by false with without = without

  rise_from : (n a : ℕ) → rises (told_from a n) ≡ true
  rise_from zero a = refl
  rise_from (suc n) a = by (s.groups a).known (rise_behind n (a + 1) (one a) (omega arith)) (rise_from n (a + 1))
    where
      by : (b : Bool) → rises (one a ∷ told_from (a + 1) n) ≡ true → rises (told_from (a + 1) n) ≡ true
          → rises ((if b then one a ∷ [] else []) ++ told_from (a + 1) n) ≡ true
      by true with without = with
      by false with without = without

  abbrev may_be_told : NextNumber → Bool
  may_be_told n = has_group grouping n.spri && is_between 1 10000000000 n.number

  all_from : (n a : ℕ) → list_all may_be_told (told_from a n) ≡ true
  all_from zero a = refl
  all_from (suc n) a = by (s.groups a).known refl (all_from n (a + 1))
    where
      by : (b : Bool) → (s.groups a).known ≡ b → list_all may_be_told (told_from (a + 1) n) ≡ true
          → list_all may_be_told ((if b then one a ∷ [] else []) ++ told_from (a + 1) n) ≡ true
      by true e rest =
          and_from (may_be_told (one a)) (list_all may_be_told (told_from (a + 1) n))
          (and_from (has_group grouping a) (is_between 1 10000000000 (s.groups a).number) ((groups a).had e)
          (and_from (nat_le 1 (s.groups a).number) (nat_le (s.groups a).number 10000000000)
          (le-leb 1 (s.groups a).number (groups a).least) (le-leb (s.groups a).number 10000000000 (groups a).most)))
          rest
      by false e rest = rest

  are_told : s.gbc ≤ 10000000000 → are_counters grouping (counters_of s) ≡ true
  unfolding are_counters
  are_told most =
      and_from (nat_le s.gbc 10000000000 && rises (counters_of s).groups) (list_all may_be_told (counters_of s).groups)
      (and_from (nat_le s.gbc 10000000000) (rises (counters_of s).groups) (le-leb s.gbc 10000000000 most) (rise_from 192 0))
      (all_from 192 0)

-- ---- at the start

pub or_right_false : (b : Bool) → (b || false) ≡ b
or_right_false true = refl
or_right_false false = refl

-- what a group has of the counters that an originator begins with
pub record IsNamed (grouping : Grouping) (numbers : List NextNumber) (spri : ℕ) : Type 0 where
  pub least : 1 ≤ number_in numbers spri
  pub most : number_in numbers spri ≤ 10000000000
  pub had : names numbers spri ≡ true → has_group grouping spri ≡ true

pub are_named : (grouping : Grouping) (numbers : List NextNumber) (spri : ℕ) → list_all (λ n. has_group grouping n.spri && is_between 1 10000000000 n.number) numbers ≡ true → IsNamed grouping numbers spri
are_named grouping [] spri all = record { least = omega arith; most = omega arith; had = λ e. absurd (cc) }
are_named grouping (n ∷ numbers) spri all =
    let parts = and_parts (has_group grouping n.spri && is_between 1 10000000000 n.number) (list_all (λ m. has_group grouping m.spri && is_between 1 10000000000 m.number) numbers) all in
    by (n.spri == spri) refl parts.0 (are_named grouping numbers spri parts.1)
  where
    by : (b : Bool) → (n.spri == spri) ≡ b → (has_group grouping n.spri && is_between 1 10000000000 n.number) ≡ true → IsNamed grouping numbers spri → IsNamed grouping (n ∷ numbers) spri
    by true e here rest =
        let is = and_parts (has_group grouping n.spri) (is_between 1 10000000000 n.number) here in
        let range = and_parts (nat_le 1 n.number) (nat_le n.number 10000000000) is.1 in
        let number : number_in (n ∷ numbers) spri ≡ n.number = ap (λ b. if b then n.number else number_in numbers spri) e in
        let least : 1 ≤ n.number = leb-true 1 n.number range.0 in
        let most : n.number ≤ 10000000000 = leb-true n.number 10000000000 range.1 in
        record {
          least = omega arith;
          most = omega arith;
          had = λ _. subst (λ k. has_group grouping k ≡ true) (eqb-true n.spri spri e) is.0;
        }
    by false e here rest =
        let number : number_in (n ∷ numbers) spri ≡ number_in numbers spri = ap (λ b. if b then n.number else number_in numbers spri) e in
        let least = rest.least in
        let most = rest.most in
        record { least = omega arith; most = omega arith; had = λ named. rest.had (sym (ap (λ b. b || names numbers spri) e) ∙ named) }

at_start : (c : Config) (start : Start) → are_counters c.grouping start.counters ≡ true → AreCounted c.grouping (state c start [])
unfolding are_counters
at_start c start are =
    let parts = and_parts (nat_le start.counters.gbc 10000000000 && rises start.counters.groups) (list_all (λ n. has_group c.grouping n.spri && is_between 1 10000000000 n.number) start.counters.groups) are in
    let gbc : start.counters.gbc ≤ 10000000000 = leb-true start.counters.gbc 10000000000 (and_parts (nat_le start.counters.gbc 10000000000) (rises start.counters.groups) parts.0).0 in
    record {
      gbc = omega arith;
      groups = λ spri. (
          let named = are_named c.grouping start.counters.groups spri parts.1 in
          let least = named.least in
          let most = named.most in
          record { least = omega arith; most = omega arith; had = λ known. named.had (sym (or_right_false (names start.counters.groups spri)) ∙ known) });
    }

-- ---- after a call

module _ (c : Config) (s : State) (are : AreCounted c.grouping s) where
  counted_with : (message : List ℕ) (stamp : Option Moment) → has_group c.grouping (spri_in c.grouping message) ≡ true → (s.groups (spri_in c.grouping message)).number < 10000000000
      → (spri : ℕ) → IsCounted c.grouping spri (groups_after c s.groups (Submit message stamp) spri)
  counted_with message stamp has below spri = by (spri_in c.grouping message == spri) refl
    where
      by : (b : Bool) → (spri_in c.grouping message == spri) ≡ b
          → IsCounted c.grouping spri (if b then group_with c.per_block (s.groups spri) (hash_of c.alg message) else s.groups spri)
      by true e =
          let same : spri_in c.grouping message ≡ spri = eqb-true (spri_in c.grouping message) spri e in
          let low : (s.groups spri).number < 10000000000 = subst (λ k. (s.groups k).number < 10000000000) same below in
          record { least = omega arith; most = omega arith; had = λ _. subst (λ k. has_group c.grouping k ≡ true) same has }
      by false e = are.groups spri

  not_spent : (call : Call) → is_counter_spent c s call ≡ false → s.gbc + length (runs_closed c (pending_in s) call) ≤ 10000000000
  not_spent call e = ltb-false 10000000000 (s.gbc + length (runs_closed c (pending_in s) call)) e

  counted_after : FaultsAreOfNoMessage → is_grouping c.grouping ≡ true → (call : Call) → fault_of c s call ≡ None → AreCounted c.grouping (after c s call)
  counted_after read is (Begin stamp) e = record { gbc = are.gbc; groups = are.groups }
  counted_after read is (Submit message stamp) e =
      let one = none_first (not s.begun) NotBegun _ e in
      let two = none_first (is_unparsed (reading message)) NotSyslog _ one.1 in
      let three = none_first (not (is_plain (reading message))) HasBlock _ two.1 in
      let four = none_first (nat_le 10000000000 (s.groups (spri_in c.grouping message)).number) NumbersSpent _ three.1 in
      let five = none_first (is_counter_spent c s (Submit message stamp)) CounterSpent None four.1 in
      record {
        gbc = not_spent (Submit message stamp) five.0;
        groups = counted_with message stamp (messages_have_groups read c.grouping message is) (leb-false 10000000000 (s.groups (spri_in c.grouping message)).number four.0);
      }
  counted_after read is (Flush stamp) e =
      let one = none_first (not s.begun) NotBegun _ e in
      let two = none_first (is_counter_spent c s (Flush stamp)) CounterSpent None one.1 in
      record {
        gbc = not_spent (Flush stamp) two.0;
        groups = λ spri. record { least = (are.groups spri).least; most = (are.groups spri).most; had = (are.groups spri).had };
      }

-- ---- after a chain

counted_behind : FaultsAreOfNoMessage → (s : Setting) → is_config s.config ≡ true → (start : Start) → are_counters s.config.grouping start.counters ≡ true
    → (turns : List Turn) → AreTurns s start turns → AreCounted s.config.grouping (state s.config start (calls_of turns))
counted_behind read s is start are [] turned = at_start s.config start are
counted_behind read s is start are (t ∷ before) turned =
    let ranges = has_ranges s.config is in
    subst (AreCounted s.config.grouping) (sym (states_step s.config start (calls_of before) t.call ranges.some))
    (counted_after s.config (state s.config start (calls_of before)) (counted_behind read s is start are before turned.0) read ranges.grouping t.call turned.1)

are_counters-anew : (grouping : Grouping) → are_counters grouping anew.counters ≡ true
unfolding are_counters
are_counters-anew grouping = refl

pub counters_stay_in_range : FaultsAreOfNoMessage → CountersStayInRange
counters_stay_in_range read s start turns is are turned =
    let behind = counted_behind read s is start are turns turned in
    are_told s.config.grouping (state s.config start (calls_of turns)) behind.groups behind.gbc

chained : FaultsAreOfNoMessage → (s : Setting) → is_config s.config ≡ true → (chain : List (List Turn)) → AreChained s chain → are_counters s.config.grouping (start_behind s.config chain).counters ≡ true
chained read s is [] are = are_counters-anew s.config.grouping
chained read s is (turns ∷ before) are = counters_stay_in_range read s (start_behind s.config before) turns is (chained read s is before are.0) are.1

pub chains_can_be_resumed : FaultsAreOfNoMessage → ChainsCanBeResumed
chains_can_be_resumed read s chain is = chained read s is.setting.fit.config chain is.chained
