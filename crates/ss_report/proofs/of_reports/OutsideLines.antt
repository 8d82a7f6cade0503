-- The runs of announced numbers that lie outside of a night, one by one.
use Rattle.std.proofs.Common.{◌≡◌, ℕ, ◌+◌, ◌-◌, ◌<◌, ◌≤◌, Bool, true, false, ◌==◌, List, [], ◌∷◌, ◌++◌, length, get_or, take, map, flat_map, filter, refl, sym, ap, ◌∙◌, subst, append-nil, append_assoc, arith}
use Rattle.std.proofs.lemmas.Bool.{eqb-true, lt-ltb, le-ltb}
use Rattle.std.proofs.lemmas.Grind.{flat_map-append}
use Rattle.std.proofs.lemmas.List.Elements.{filter-append}
use Rattle.std.proofs.lemmas.List.{map-append, take_all, take_more}
use Rattle.ss_block.specs.declared.block.Group.{Group}
use Rattle.ss_review.specs.declared.report.entry.Entry.{Entry}
use Rattle.ss_review.specs.counted.Counted.{number_announced}
use Rattle.ss_between.specs.Between.{NumberRun, numbers_between, runs, runs_from}
use Rattle.ss_report.specs.declared.lines.outside.OpenRun.{OpenRun}
use Rattle.ss_report.specs.lines.Lines.{ReportLine}
use Rattle.ss_report.specs.lines.Taken.{TakesAll}
use Rattle.ss_report.specs.lines.Between.{GoesOn, runs_with}
use Rattle.ss_report.proofs.of_writing.LinesTaken.{lines_then, taken_same}

-- ---- the runs

-- the run with no number, at 1 and at 0
none_by : (g : Group) (n : ℕ) (ns : List ℕ) (one zero : Bool) → (n == 1) ≡ one → (n == 0) ≡ zero → runs_from g 1 1 (n ∷ ns) ≡ runs g (n ∷ ns)
unfolding runs_from numbers_between
none_by g n ns true true is_one is_zero = absurd (omega (arith, eqb-true n 1 is_one, eqb-true n 0 is_zero))
none_by g n ns true false is_one is_zero = rw (is_one, is_zero) (ap (λ m. runs_from g m (n + 1) ns) (sym (eqb-true n 1 is_one)))
none_by g n ns false true is_one is_zero = rw (is_one, is_zero) (ap (λ m. runs_from g m (n + 1) ns) (eqb-true n 0 is_zero))
none_by g n ns false false is_one is_zero = rw (is_one, is_zero) refl

pub none_open : (g : Group) (ns : List ℕ) → runs_from g 1 1 ns ≡ runs g ns
unfolding runs_from numbers_between
none_open g [] = refl
none_open g (n ∷ ns) = none_by g n ns (n == 1) (n == 0) refl refl

-- a number goes on with the run, or begins another one
pub goes_with : (g : Group) (first end n : ℕ) (ns : List ℕ) → (n == end) ≡ true → runs_from g first end (n ∷ ns) ≡ runs_from g first (n + 1) ns
unfolding runs_from
goes_with g first end n ns is = rw is refl

pub begins : (g : Group) (first end n : ℕ) (ns : List ℕ) → (n == end) ≡ false → runs_from g first end (n ∷ ns) ≡ runs_from g first end [] ++ runs_from g n (n + 1) ns
unfolding runs_from
begins g first end n ns is = rw is refl

-- ---- the visits

module _ {S : Type 0} (takes : S → S → ReportLine → Type 0) (line : NumberRun → ReportLine) (g : Group) where
  -- nothing is visited, and no number is looked at
  pub none_goes_on : (a : S) (run : OpenRun) → GoesOn takes line g a a run run []
  none_goes_on a run = λ end others visited. visited

  -- numbers after others
  pub goes_further : (a b c : S) (was run is : OpenRun) (ns ms : List ℕ) → GoesOn takes line g a b was run ns → GoesOn takes line g b c run is ms → GoesOn takes line g a c was is (ns ++ ms)
  goes_further a b c was run is ns ms some more = λ end others visited.
      taken_same takes a end _ _ (some end (ms ++ others) (more end others visited)) (ap (λ l. map line (runs_with g was l)) (sym (append_assoc ns ms others)))

  -- the number goes on with the run
  pub one_goes_on : (a : S) (was is : OpenRun) (n : ℕ) → (n == was.last + 1) ≡ true → is.first ≡ was.first → is.last ≡ n → GoesOn takes line g a a was is (n ∷ [])
  one_goes_on a was is n follows first last = λ end others visited.
      taken_same takes a end _ _ visited (ap (map line) ((λ i. runs_from g (first i) (last i + 1) others) ∙ sym (goes_with g was.first (was.last + 1) n others follows)))

  -- the number begins another run, after the line of the one before it
  pub one_begins : (a b : S) (was is : OpenRun) (n : ℕ) → (n == was.last + 1) ≡ false → is.first ≡ n → is.last ≡ n → TakesAll takes a b (map line (runs_with g was [])) → GoesOn takes line g a b was is (n ∷ [])
  one_begins a b was is n follows first last closed = λ end others visited.
      let next : runs_with g is others ≡ runs_from g n (n + 1) others = λ i. runs_from g (first i) (last i + 1) others in
      let whole : map line (runs_with g was []) ++ map line (runs_with g is others) ≡ map line (runs_with g was (n ∷ others)) =
      sym (map-append line (runs_with g was []) (runs_with g is others)) ∙ ap (λ l. map line (runs_with g was [] ++ l)) next ∙ ap (map line) (sym (begins g was.first (was.last + 1) n others follows)) in
      taken_same takes a end _ _ (lines_then takes a b end _ _ closed visited) whole

-- ---- the numbers of the entries

pub announced_more : (p : ℕ → Bool) (es : List Entry) (i : ℕ) (d : Entry) → i < length es
    → filter p (flat_map number_announced (take (i + 1) es)) ≡ filter p (flat_map number_announced (take i es)) ++ filter p (number_announced (get_or es i d))
announced_more p es i d within =
    let some = take i es in
    let e = get_or es i d in
    ap (λ (xs : List Entry). filter p (flat_map number_announced xs)) (take_more es i d within)
    ∙ ap (filter p) (flat_map-append number_announced some (e ∷ []))
    ∙ filter-append p (flat_map number_announced some) (flat_map number_announced (e ∷ []))
    ∙ ap (λ ns. filter p (flat_map number_announced some) ++ filter p ns) (append-nil (number_announced e))

-- ---- the line of a run

pub open_line : (g : Group) (run : OpenRun) → run.first ≤ run.last → runs_with g run [] ≡ record { group = g; first = run.first; last = run.last } ∷ []
unfolding runs_from numbers_between
open_line g run rises =
    let last : (run.last + 1) - 1 ≡ run.last = omega arith in
    rw (lt-ltb run.first (run.last + 1) (omega arith)) (ap (λ (l : ℕ). record { group = g; first = run.first; last = l } ∷ []) last)

pub no_open_line : (g : Group) (run : OpenRun) → run.last < run.first → runs_with g run [] ≡ []
unfolding runs_from numbers_between
no_open_line g run falls = rw (le-ltb run.first (run.last + 1) (omega arith)) refl

-- ---- the entries

module _ {S : Type 0} (takes : S → S → ReportLine → Type 0) (line : NumberRun → ReportLine) (g : Group) (p : ℕ → Bool) (es : List Entry) where
  -- the entries so far, and then the next one
  pub entries_go_on : (i : ℕ) (d : Entry) (a b c : S) (was run is : OpenRun) → i < length es → GoesOn takes line g a b was run (filter p (flat_map number_announced (take i es)))
      → GoesOn takes line g b c run is (filter p (number_announced (get_or es i d))) → GoesOn takes line g a c was is (filter p (flat_map number_announced (take (i + 1) es)))
  entries_go_on i d a b c was run is within so_far next =
      let some = filter p (flat_map number_announced (take i es)) in
      subst (λ (ns : List ℕ). GoesOn takes line g a c was is ns) (sym (announced_more p es i d within))
      (goes_further takes line g a b c was run is some (filter p (number_announced (get_or es i d))) so_far next)

  -- all entries, and then the line of the last run
  pub entries_done : (i : ℕ) (a b c : S) (run : OpenRun) → length es ≤ i → GoesOn takes line g a b (record { first = 1; last = 0 }) run (filter p (flat_map number_announced (take i es)))
      → TakesAll takes b c (map line (runs_with g run [])) → TakesAll takes a c (map line (runs g (filter p (flat_map number_announced es))))
  entries_done i a b c run all so_far closed =
      let some = filter p (flat_map number_announced (take i es)) in
      let whole = filter p (flat_map number_announced es) in
      let same : some ++ [] ≡ whole = append-nil some ∙ ap (λ (xs : List Entry). filter p (flat_map number_announced xs)) (take_all i es all) in
      taken_same takes a c _ _ (so_far c [] closed) (ap (map line) (ap (runs_from g 1 1) same ∙ none_open g whole))
