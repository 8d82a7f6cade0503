-- Runs that go on by files are lives of a chain that goes on ahead.
use Rattle.std.proofs.Common.{◌≡◌, ℕ, zero, suc, ◌+◌, ◌<◌, ◌≤◌, Bool, true, false, cond, ◌==◌, max, flat_map, List, [], ◌∷◌, ◌++◌, refl, sym, ap, ◌∙◌, subst, arith, eq-or-lt_of_le, ⊎_elim}
use Rattle.std.specs.Prelude.{if◌then◌else◌}
use Rattle.std.specs.List.{list_any, range_with_len}
use Rattle.std.proofs.lemmas.Bool.{eqb-true, eqb-false}
use Rattle.ss_origin.specs.declared.counters.Counters.{Counters}
use Rattle.ss_origin.specs.declared.counters.NextNumber.{NextNumber}
use Rattle.ss_origin.specs.declared.grouping.Grouping.{Grouping}
use Rattle.ss_origin.specs.Ahead.{AreAtLeast}
use Rattle.ss_origin.specs.ChainLaws.{CountersStayInRange}
use Rattle.ss_origin.specs.Counting as counting
use Rattle.ss_origin.specs.Counting.{Start, anew, resumed, are_counters}
use Rattle.ss_origin.specs.Groups.{group_of, sg_of}
use Rattle.ss_origin.specs.Setting.{Setting, IsSetting}
use Rattle.ss_origin.proofs.Configs.{has_ranges}
use Rattle.ss_block.specs.declared.session.Session.{Session}
use Rattle.ss_review.specs.declared.counted.counter.Counter.{Counter}
use Rattle.ss_review.specs.counted.Kept.{kept_number}
use Rattle.ss_answers.specs.Start.{is_of_other, number_if_said, start_of}
use Rattle.ss_answers.proofs.Starts.{start_fits}
use Rattle.ss_signing.specs.Accepted.{all_calls}
use Rattle.ss_signing.specs.GoingOn.{Sent, StartsAfter, GoOn, RunsGoOn, told_ahead}
use Rattle.ss_answers.specs.CounterFile.{together}
use Rattle.ss_laws.specs.plans.FileStarts.{StartsByFile, StartsBehind, GoOnByFiles, RunsByFilesGoOn}
use Rattle.ss_laws.specs.plans.ReadBack.{AheadIsReadAmongOthers, greater, number_of, saved, saved_among, session_of}
use Rattle.ss_laws.proofs.of_plans.Greatest.{any_among}
use Rattle.ss_laws.proofs.of_plans.ReadBack.{counters_among, ends_in_range, own_session}
use Rattle.ss_laws.proofs.of_plans.SavedNumbers.{are_in_range}
use Rattle.ss_laws.proofs.of_plans.SavedStarts.{none_saved}
use Rattle.ss_signing.proofs.Sending.{anew_fits}

-- ---- greater counters are at least these

-- a group that isn't named has the next number 1
named_or_1 : (numbers : List NextNumber) (spri : ℕ) → counting.number_in numbers spri ≤ max 1 (number_of numbers spri)
named_or_1 [] spri = omega arith
named_or_1 (n ∷ numbers) spri = by (n.spri == spri) (named_or_1 numbers spri)
  where
    by : (b : Bool) → counting.number_in numbers spri ≤ max 1 (number_of numbers spri)
        → (if b then n.number else counting.number_in numbers spri) ≤ max 1 (if b then n.number else number_of numbers spri)
    by true rest = omega arith
    by false rest = rest

module _ (said : ℕ → ℕ) where
  abbrev told : ℕ → ℕ → List NextNumber
  told a n = flat_map (λ spri. number_if_said spri (said spri)) (range_with_len a n)

  -- the next number of a group is at least 1, and at least what is said of it
  abbrev Says : ℕ → ℕ → ℕ → List NextNumber → Type 0
  Says a end spri numbers =
      (1 ≤ counting.number_in numbers spri) × (a ≤ spri → spri < end → said spri ≤ counting.number_in numbers spri)

  says : (n a end spri : ℕ) → a + n ≡ end → Says a end spri (told a n)
  says zero a end spri ends = (omega arith, λ low high. absurd (omega (arith, ends, low, high)))
  says (suc n) a end spri ends = by (said a == 0) refl (says n (a + 1) end spri (omega (arith, ends)))
    where
      here : (b : Bool) → (a == spri) ≡ b → 1 ≤ said a → Says (a + 1) end spri (told (a + 1) n)
          → (1 ≤ (if b then said a else counting.number_in (told (a + 1) n) spri))
          × (a ≤ spri → spri < end → said spri ≤ (if b then said a else counting.number_in (told (a + 1) n) spri))
      here true e some rest = (some, λ low high. subst (λ q. said q ≤ said a) (eqb-true a spri e) (omega arith))
      here false e some rest = let apart : a ≡ spri → ⊥ = eqb-false a spri e in (rest.0, λ low high. rest.1 (omega (arith, low, apart)) high)

      by : (b : Bool) → (said a == 0) ≡ b → Says (a + 1) end spri (told (a + 1) n)
          → Says a end spri (cond b [] (record { spri = a; number = said a } ∷ []) ++ told (a + 1) n)
      by true e rest =
          let none : said a ≡ 0 = eqb-true (said a) 0 e in
          let least = rest.0 in (
            least,
            λ low high. ⊎_elim (λ same. subst (λ q. said q ≤ counting.number_in (told (a + 1) n) spri) same (omega (arith, none))) (λ above. rest.1 (omega (arith, above)) high) (eq-or-lt_of_le low),
          )
      by false e rest = let some : said a ≡ 0 → ⊥ = eqb-false (said a) 0 e in here (a == spri) refl (omega (arith, some)) rest

greater_is_at_least : (s : Session) (grouping : Grouping) (k : Counters) (others : List Counter) → AreAtLeast k (greater s grouping k others)
greater_is_at_least s grouping k others = record {
  gbc = omega arith;
  numbers = λ spri below. (
      let said : ℕ → ℕ = λ p. max (number_of k.groups p) (kept_number others s (group_of grouping p)) in
      let here = says said 192 0 192 spri (omega arith) in
      let least = here.0 in
      let more = here.1 (omega arith) below in
      let old = named_or_1 k.groups spri in
      omega (arith, least, more, old));
}

-- ---- runs

module _ (stay : CountersStayInRange) (among : AheadIsReadAmongOthers) (s : Setting) (setting : IsSetting s) where
  abbrev InRange : Start → Type 0
  InRange start = are_counters s.config.grouping start.counters ≡ true

  by_file : (r : Sent s) → InRange r.start → (start : Start) → StartsByFile r start → ((k : Counters) × (start ≡ resumed k) × AreAtLeast (told_ahead r) k) × InRange start
  by_file r are start f =
      let session = session_of s.config in
      let grouping = s.config.grouping in
      let k = told_ahead r in
      let grouped = (has_ranges s.config setting.fit.config).grouping in
      let own = own_session s setting in
      let ends : are_counters grouping k ≡ true = ends_in_range stay s r.start (all_calls r.start r.stamp r.messages) r.emitted r.accepted are in
      let m = among session grouping k f.before f.behind own grouped ends f.before_in_range f.behind_in_range in
      let before = together f.before in
      let behind = together f.behind in
      let all = saved_among session (sg_of grouping) k before behind in
      let same : f.counters ≡ all = m.read.no_others f.counters f.read in
      let there : start ≡ resumed (start_of session grouping all) = f.start_is ∙ ap (λ cs. resumed (start_of session grouping cs)) same in
      let ranges = are_in_range grouping k grouped ends in
      let none : list_any (is_of_other session grouping) all ≡ false
      = any_among (is_of_other session grouping) before (saved session (sg_of grouping) k) behind (none_saved session grouping k ranges) ∙ f.own_groups in (
        (greater session grouping k (before ++ behind), there ∙ ap resumed m.goes_on, greater_is_at_least session grouping k (before ++ behind)),
        subst InRange (sym there) (start_fits session grouping all (counters_among session grouping k before behind own ranges f.before_in_range f.behind_in_range) none),
      )

  goes_on : (runs : List (Sent s)) → GoOnByFiles runs → GoOn runs × ((start : Start) → StartsBehind runs start → StartsAfter runs start × InRange start)
  goes_on [] go = (tt, λ start e. (e, subst InRange (sym e) (anew_fits s.config.grouping)))
  goes_on (r ∷ before) go =
      let older = goes_on before go.0 in
      let here = older.1 r.start go.1 in
      ((older.0, here.0), λ start f. by_file r here.1 start f)

pub runs_by_files_go_on : CountersStayInRange → AheadIsReadAmongOthers → RunsGoOn → RunsByFilesGoOn
runs_by_files_go_on stay among chained s runs setting go =
    let on = (goes_on stay among s setting runs go).0 in (on, chained s runs setting on)
