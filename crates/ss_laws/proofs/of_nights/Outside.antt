-- The numbers of groups that pass a test, in greatest runs.
use Rattle.std.proofs.Common.{◌≡◌, ◌⊎◌, inl, inr, ℕ, ◌+◌, ◌<◌, ◌≤◌, Bool, true, List, [], ◌∷◌, ◌++◌, map, filter, flat_map, refl, sym, ap, ◌∙◌, subst, arith}
use Rattle.std.specs.declared.cmp.Ordering.TheVariants.{Less}
use Rattle.std.specs.Ordering.{nat_cmp}
use Rattle.std.specs.List.{AllPairs}
use Rattle.std.specs.List.Sorted.{IsStrictlySortedBy}
use Rattle.std.proofs.lemmas.List.Elements.{All-from_recursion}
use Rattle.ss_block.specs.declared.block.Group.{Group}
use Rattle.ss_block.specs.Order.{group_cmp}
use Rattle.ss_block.specs.OrderLaws.{group_cmp_total}
use Rattle.ss_review.specs.declared.report.entry.Entry.{Entry}
use Rattle.ss_review.specs.declared.report.entry.Entry.TheVariants as entry
use Rattle.ss_review.specs.declared.report.entry.Why.{Why}
use Rattle.ss_review.specs.declared.report.group_report.GroupReport.{GroupReport}
use Rattle.ss_review.specs.counted.Counted.{number_announced}
use Rattle.ss_review.specs.report.Meaning.{first_number}
use Rattle.ss_between.specs.Between.{NumberRun, runs, numbers}
use Rattle.ss_octets.proofs.Members.{Has, has-map, has-filter, from_has-filter, has-flat_map, from_has-flat_map, all-has}
use Rattle.ss_review.proofs.of_lists.Keyed.{keys_rise-filter}
use Rattle.ss_review.proofs.of_lists.Rising.{all_below, not_less_itself}
use Rattle.ss_laws.specs.nights.NightLaws.{AreRuns}
use Rattle.ss_laws.proofs.of_nights.Runs.{RiseFrom, rise_from, no_pairs, pairs_together, a_run_of, has_number, number_has, runs_apart}

-- ---- the announced numbers of a group

-- an entry lists the number, or has it as a gap
abbrev pub HasNumber : List Entry → ℕ → Type 0
HasNumber es n = ((place : ℕ) × Has es (entry.Listed n place)) ⊎ ((why : Why) × Has es (entry.Gap n why))

number_of : (es : List Entry) (e : Entry) (n : ℕ) → Has es e → Has (number_announced e) n → HasNumber es n
number_of es (entry.Listed m place) n h (inl at) = inl (place, subst (λ q. Has es (entry.Listed q place)) at h)
number_of es (entry.Listed m place) n h (inr none) = absurd none
number_of es (entry.Gap m why) n h (inl at) = inr (why, subst (λ q. Has es (entry.Gap q why)) at h)
number_of es (entry.Gap m why) n h (inr none) = absurd none
number_of es (entry.Hole first last) n h none = absurd none

pub from_numbers : (g : GroupReport) (n : ℕ) → Has (numbers g) n → HasNumber g.entries n
from_numbers g n h = let w = from_has-flat_map number_announced g.entries n h in number_of g.entries w.0 n w.1 w.2

pub to_numbers : (g : GroupReport) (n : ℕ) → HasNumber g.entries n → Has (numbers g) n
to_numbers g n (inl l) = has-flat_map number_announced g.entries (entry.Listed n l.0) n l.1 (inl refl)
to_numbers g n (inr q) = has-flat_map number_announced g.entries (entry.Gap n q.0) n q.1 (inl refl)

-- ---- they rise

its_first : (e : Entry) (n : ℕ) → Has (number_announced e) n → first_number e ≡ n
its_first (entry.Listed m place) n (inl at) = at
its_first (entry.Listed m place) n (inr none) = absurd none
its_first (entry.Gap m why) n (inl at) = at
its_first (entry.Gap m why) n (inr none) = absurd none
its_first (entry.Hole first last) n none = absurd none

number_first : (e : Entry) (ns : List ℕ) → ((n : ℕ) → Has ns n → nat_cmp (first_number e) n ≡ Less) → IsStrictlySortedBy nat_cmp ns → IsStrictlySortedBy nat_cmp (number_announced e ++ ns)
unfolding IsStrictlySortedBy
number_first (entry.Listed m place) ns above up = (all_below (λ n. nat_cmp m n ≡ Less) ns above, up)
number_first (entry.Gap m why) ns above up = (all_below (λ n. nat_cmp m n ≡ Less) ns above, up)
number_first (entry.Hole first last) ns above up = up

numbers_rise : (es : List Entry) → IsStrictlySortedBy nat_cmp (map first_number es) → IsStrictlySortedBy nat_cmp (flat_map number_announced es)
unfolding IsStrictlySortedBy
numbers_rise [] up = tt
numbers_rise (e ∷ es) up =
    number_first e (flat_map number_announced es)
    (λ n h.
    (let w = from_has-flat_map number_announced es n h in
    subst (λ m. nat_cmp (first_number e) m ≡ Less) (its_first w.0 n w.2) (all-has (λ m. nat_cmp (first_number e) m ≡ Less) (map first_number es) (first_number w.0) up.0 (has-map first_number es w.0 w.1))))
    (numbers_rise es up.1)

same_numbers : (ns : List ℕ) → map (λ (n : ℕ). n) ns ≡ ns
same_numbers [] = refl
same_numbers (n ∷ ns) = ap (λ ms. n ∷ ms) (same_numbers ns)

filter_rise : (p : ℕ → Bool) (ns : List ℕ) → IsStrictlySortedBy nat_cmp ns → IsStrictlySortedBy nat_cmp (filter p ns)
filter_rise p ns up =
    subst (IsStrictlySortedBy nat_cmp) (same_numbers (filter p ns))
    (keys_rise-filter (λ (n : ℕ). n) nat_cmp p ns (subst (IsStrictlySortedBy nat_cmp) (sym (same_numbers ns)) up))

-- ---- the runs of all groups

abbrev pub EntriesRise : GroupReport → Type 0
EntriesRise g = IsStrictlySortedBy nat_cmp (map first_number g.entries)

abbrev of : GroupReport → Group
of g = g.group

module _ (p : GroupReport → ℕ → Bool) where
  abbrev pub passing : GroupReport → List ℕ
  passing g = filter (p g) (numbers g)

  abbrev pub outside_of : GroupReport → List NumberRun
  outside_of g = runs g.group (passing g)

  abbrev pub outside : List GroupReport → List NumberRun
  outside gs = flat_map outside_of gs

  rise : (g : GroupReport) → EntriesRise g → RiseFrom 0 (passing g)
  rise g up = rise_from 0 (passing g) (filter_rise (p g) (numbers g) (numbers_rise g.entries up)) (λ n h. omega arith)

  -- the number is in a run of the group
  pub record IsInRuns (runs : List NumberRun) (g : Group) (n : ℕ) : Type 0 where
    pub run : NumberRun
    pub told : Has runs run
    pub group_is : run.group ≡ g
    pub from : run.first ≤ n
    pub to : n ≤ run.last

  -- a group has the number, and it passes
  pub record Passes (gs : List GroupReport) (g : Group) (n : ℕ) : Type 0 where
    pub group : GroupReport
    pub told : Has gs group
    pub group_is : group.group ≡ g
    pub number : HasNumber group.entries n
    pub passes : p group n ≡ true

  module _ (gs : List GroupReport) (ups : (g : GroupReport) → Has gs g → EntriesRise g) where
    pub from_runs : (g : Group) (n : ℕ) → IsInRuns (outside gs) g n → Passes gs g n
    from_runs g n w =
        let v = from_has-flat_map outside_of gs w.run w.told in
        let up = rise v.0 (ups v.0 v.1) in
        let h = has_number v.0.group (passing v.0) up n (w.run, v.2, w.from, w.to) in
        let f = from_has-filter (p v.0) (numbers v.0) n h in
        record {
          group = v.0;
          told = v.1;
          group_is = sym (a_run_of v.0.group (passing v.0) up w.run v.2).group_is ∙ w.group_is;
          number = from_numbers v.0 n f.0;
          passes = f.1;
        }

    pub to_runs : (g : Group) (n : ℕ) → Passes gs g n → IsInRuns (outside gs) g n
    to_runs g n w =
        let own = w.group in
        let up = rise own (ups own w.told) in
        let r = number_has own.group (passing own) up n (has-filter (p own) (numbers own) n (to_numbers own n w.number) w.passes) in
        record {
          run = r.0;
          told = has-flat_map outside_of gs own r.0 w.told r.1;
          group_is = (a_run_of own.group (passing own) up r.0 r.1).group_is ∙ w.group_is;
          from = r.2;
          to = r.3;
        }

    some_numbers : (r : NumberRun) → Has (outside gs) r → r.first ≤ r.last
    some_numbers r h =
        let v = from_has-flat_map outside_of gs r h in
        (a_run_of v.0.group (passing v.0) (rise v.0 (ups v.0 v.1)) r v.2).some

  abbrev DontTouch : NumberRun → NumberRun → Type 0
  DontTouch r q = r.group ≡ q.group → r.last + 1 < q.first

  apart : (gs : List GroupReport) → ((g : GroupReport) → Has gs g → EntriesRise g) → IsStrictlySortedBy group_cmp (map of gs) → AllPairs DontTouch (outside gs)
  unfolding IsStrictlySortedBy
  apart [] ups up = no_pairs DontTouch
  apart (g ∷ gs) ups up =
      let own = rise g (ups g (inl refl)) in
      pairs_together DontTouch (outside_of g) (outside gs)
      (λ i j d less below. λ same. runs_apart g.group (passing g) own i j d less below)
      (apart gs (λ h i. ups h (inr i)) up.1)
      (λ r h q i.
      λ same.
      (let v = from_has-flat_map outside_of gs q i in
      let first_is = (a_run_of g.group (passing g) own r h).group_is in
      let second_is = (a_run_of v.0.group (passing v.0) (rise v.0 (ups v.0 (inr v.1))) q v.2).group_is in
      let one : g.group ≡ v.0.group = sym first_is ∙ same ∙ second_is in
      let less : group_cmp g.group v.0.group ≡ Less = all-has (λ k. group_cmp g.group k ≡ Less) (map of gs) v.0.group up.0 (has-map of gs v.0 v.1) in
      absurd (not_less_itself group_cmp_total v.0.group (subst (λ k. group_cmp k v.0.group ≡ Less) one less))))

  pub are_runs : (gs : List GroupReport) → ((g : GroupReport) → Has gs g → EntriesRise g) → IsStrictlySortedBy group_cmp (map of gs) → AreRuns (outside gs)
  are_runs gs ups up = record {
    some_number = All-from_recursion (λ (r : NumberRun). r.first ≤ r.last) (outside gs) (all_below (λ (r : NumberRun). r.first ≤ r.last) (outside gs) (some_numbers gs ups));
    apart = apart gs ups up;
  }
