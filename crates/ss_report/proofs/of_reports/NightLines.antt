-- The lines of a report between the counters of a night.
use Rattle.std.proofs.Common.{◌≡◌, ℕ, ◌+◌, ◌<◌, Bool, true, false, List, [], ◌∷◌, ◌++◌, length, get_or, take, map, flat_map, filter, filter_map, Option, Some, None, refl, sym, ap, ◌∙◌, arith}
use Rattle.std.specs.Prelude.{zip, min, not, if◌then◌else◌}
use Rattle.std.proofs.Math.Nat.{max-zero}
use Rattle.std.proofs.lemmas.Bool.{le-ltb}
use Rattle.std.proofs.lemmas.List.{map-append, take_all}
use Rattle.std.proofs.lemmas.List.Folds.{flat_map-map}
use Rattle.std.proofs.lemmas.Slice.Zip.{length-zip, get_or-zip}
use Rattle.ss_block.specs.declared.session.Session.{Session}
use Rattle.ss_review.specs.declared.counted.counter.Counter.{Counter}
use Rattle.ss_review.specs.declared.counted.missing.MissingRun.{MissingRun}
use Rattle.ss_review.specs.declared.counted.shortfall.GroupTail.{GroupTail}
use Rattle.ss_review.specs.declared.counted.shortfall.Shortfall.{Shortfall}
use Rattle.ss_review.specs.declared.report.entry.Entry.{Entry}
use Rattle.ss_review.specs.declared.report.entry.Entry.TheVariants as entry
use Rattle.ss_review.specs.declared.report.group_report.GroupReport.{GroupReport}
use Rattle.ss_review.specs.declared.report.report.Report.{Report}
use Rattle.ss_review.specs.declared.report.session_report.SessionReport.{SessionReport}
use Rattle.ss_between.specs.Between.{absent_left, beyond, beyond_of, early_of, entry_left, group_left, is_idle, run_left, session_between, session_left, shortfall_left, tail_left}
use Rattle.ss_report.specs.declared.lines.detail.Detail.{Detail}
use Rattle.ss_report.specs.declared.lines.missing.Missing.{Missing}
use Rattle.ss_report.specs.declared.lines.outside.Side.TheVariants as sides
use Rattle.ss_report.specs.declared.log.ending.Ending.{Ending}
use Rattle.ss_report.specs.lines.Lines.{ReportLine, AbsentLine, SessionLine, group_lines, session_lines, other_lines, lines}
use Rattle.ss_report.specs.lines.Taken.{TakesAll}
use Rattle.ss_report.specs.lines.Whole.{absent_lines, missing_line, shortfall_lines, tail_line}
use Rattle.ss_report.specs.lines.Between.{absent_from, beyond_line, early_line, gbc_from, group_from, group_lines_outside, is_idle_from, lines_beside, lines_between, lines_of_absent, lines_of_night, lines_outside, session_from, sessions_beside, shortfall_from, tail_from}
use Rattle.ss_report.proofs.of_writing.LinesTaken.{taken_same, lines_more}

-- ---- the numbers outside of it

pub early_lines : (cs : List Counter) (s : Session) (gs : List GroupReport) → flat_map (group_lines_outside sides.Early cs s) gs ≡ map (early_line s) (flat_map (early_of cs s) gs)
unfolding early_of
early_lines cs s [] = refl
early_lines cs s (g ∷ gs) =
    ap (λ ls. group_lines_outside sides.Early cs s g ++ ls) (early_lines cs s gs) ∙ sym (map-append (early_line s) (early_of cs s g) (flat_map (early_of cs s) gs))

pub beyond_lines : (cs : List Counter) (s : Session) (gs : List GroupReport) → flat_map (group_lines_outside sides.Beyond cs s) gs ≡ map (beyond_line s) (flat_map (beyond_of cs s) gs)
unfolding beyond_of
beyond_lines cs s [] = refl
beyond_lines cs s (g ∷ gs) =
    ap (λ ls. group_lines_outside sides.Beyond cs s g ++ ls) (beyond_lines cs s gs) ∙ sym (map-append (beyond_line s) (beyond_of cs s g) (flat_map (beyond_of cs s) gs))

beyond_side : (second : Option (List Counter)) (r : SessionReport) → lines_outside sides.Beyond second r ≡ map (beyond_line r.session) (beyond second r)
unfolding beyond
beyond_side None r = refl
beyond_side (Some cs) r = beyond_lines cs r.session r.groups

-- ---- a session

all_entries : (es : List Entry) → filter_map (entry_left 0) es ≡ es
unfolding entry_left
all_entries [] = refl
all_entries (entry.Listed number place ∷ es) = ap (λ xs. entry.Listed number place ∷ xs) (all_entries es)
all_entries (entry.Gap number why ∷ es) = ap (λ xs. entry.Gap number why ∷ xs) (all_entries es)
all_entries (entry.Hole first last ∷ es) = rw (le-ltb last 0 (omega arith), max-zero first) (ap (λ xs. entry.Hole first last ∷ xs) (all_entries es))

all_tails : (ts : List GroupTail) → filter_map (tail_left 0) ts ≡ ts
unfolding tail_left
all_tails [] = refl
all_tails (t ∷ ts) = rw (le-ltb t.last 0 (omega arith), max-zero t.first) (ap (λ xs. t ∷ xs) (all_tails ts))

all_runs : (rs : List MissingRun) → filter_map (run_left 0) rs ≡ rs
unfolding run_left
all_runs [] = refl
all_runs (r ∷ rs) = rw (le-ltb r.last 0 (omega arith), max-zero r.first) (ap (λ xs. r ∷ xs) (all_runs rs))

all_groups : (detail : Detail) (s : Session) (gs : List GroupReport) → flat_map (λ g. group_lines detail s (group_from None s g)) gs ≡ flat_map (group_lines detail s) gs
all_groups detail s [] = refl
all_groups detail s (g ∷ gs) = λ i. group_lines detail s (record { group = g.group; entries = all_entries g.entries i }) ++ all_groups detail s gs i

pub session_lines_from : (detail : Detail) (first : Option (List Counter)) (r : SessionReport)
    → SessionLine r.session r.state ∷ flat_map (λ g. group_lines detail r.session (group_from first r.session g)) r.groups ≡ session_lines detail (session_from first r)
session_lines_from detail None r = ap (λ ls. SessionLine r.session r.state ∷ ls) (all_groups detail r.session r.groups)
session_lines_from detail (Some cs) r =
    ap (λ ls. SessionLine r.session r.state ∷ ls) (sym (flat_map-map (group_lines detail r.session) (group_left cs r.session) r.groups))

pub shortfall_lines_from : (first : Option (List Counter)) (f : Shortfall)
    → map (tail_line f.session) (filter_map (tail_from first f.session) f.tails) ++ map (missing_line f.session) (filter_map (run_left (gbc_from first f.session)) f.blocks)
    ≡ shortfall_lines (shortfall_from first f)
unfolding shortfall_left
shortfall_lines_from None f = λ i. map (tail_line f.session) (all_tails f.tails i) ++ map (missing_line f.session) (all_runs f.blocks i)
shortfall_lines_from (Some cs) f = refl

pub night_lines_from : (detail : Detail) (first second : Option (List Counter)) (r : SessionReport) (f : Shortfall)
    → session_lines detail (session_from first r) ++ lines_outside sides.Early first r ++ lines_outside sides.Beyond second r ++ shortfall_lines (shortfall_from first f)
    ≡ lines_of_night detail first second (r, f)
unfolding session_between
night_lines_from detail None second r f = λ i. ((session_lines detail r ++ []) ++ beyond_side second r i) ++ shortfall_lines f
night_lines_from detail (Some cs) second r f =
    λ i. ((session_lines detail (session_left cs r) ++ early_lines cs r.session r.groups i) ++ beyond_side second r i) ++ shortfall_lines (shortfall_left cs f)

-- ---- the whole report

pub beside_parts : (detail : Detail) (r : Report) (m : Option Missing) (ending : Ending) → sessions_beside detail m r.sessions ++ other_lines detail r ending ≡ lines_beside detail r m ending
unfolding lines lines_between
beside_parts detail r None ending = refl
beside_parts detail r (Some m) ending = refl

-- ---- the sessions without a block

absent_by : (cs : List Counter) (f : Shortfall) (fs : List Shortfall) (idle : Bool) → is_idle cs f ≡ idle
    → flat_map absent_lines (filter (λ x. not (is_idle cs x)) (f ∷ fs)) ≡ (if idle then [] else absent_lines f) ++ flat_map absent_lines (filter (λ x. not (is_idle cs x)) fs)
absent_by cs f fs true is = rw is refl
absent_by cs f fs false is = rw is refl

absent_after : (cs : List Counter) (fs : List Shortfall) → flat_map (lines_of_absent (Some cs)) fs ≡ flat_map absent_lines (absent_left cs fs)
unfolding absent_left
absent_after cs [] = refl
absent_after cs (f ∷ fs) =
    ap (λ ls. lines_of_absent (Some cs) f ++ ls) (absent_after cs fs)
    ∙ sym (absent_by cs (shortfall_left cs f) (map (shortfall_left cs) fs) (is_idle cs (shortfall_left cs f)) refl)

pub absent_are : (first : Option (List Counter)) (fs : List Shortfall) → flat_map (lines_of_absent first) fs ≡ flat_map absent_lines (absent_from first fs)
absent_are None fs = refl
absent_are (Some cs) fs = absent_after cs fs

pub not_idle_lines : (first : Option (List Counter)) (f : Shortfall) → is_idle_from first f ≡ false
    → AbsentLine f.session ∷ shortfall_lines (shortfall_from first f) ≡ lines_of_absent first f
unfolding shortfall_left
not_idle_lines None f is = refl
not_idle_lines (Some cs) f is = rw is refl

-- ---- the sessions so far, each beside what is missing of it, and then the next one

module _ {S : Type 0} (detail : Detail) (first second : Option (List Counter)) (takes : S → S → ReportLine → Type 0) (ss : List SessionReport) (ms : List Shortfall) where
  pub nights_more : (a b d : S) (n m : ℕ) (s : SessionReport) (short : Shortfall) → n < length ss → n < length ms → s ≡ get_or ss n s → short ≡ get_or ms n short → m ≡ n + 1
      → TakesAll takes a b (flat_map (lines_of_night detail first second) (take n (zip ss ms))) → TakesAll takes b d (lines_of_night detail first second (s, short)) → TakesAll takes a d (flat_map (lines_of_night detail first second) (take m (zip ss ms)))
  nights_more a b d n m s short in_sessions in_missing session missing more so_far next =
      let both : n < length (zip ss ms) = omega (arith, length-zip ss ms, in_sessions, in_missing) in
      let pair : (s, short) ≡ get_or (zip ss ms) n (s, short) = (λ i. (session i, missing i)) ∙ sym (get_or-zip ss ms n (s, short) in_sessions in_missing) in
      taken_same takes a d _ _ (lines_more takes (lines_of_night detail first second) (zip ss ms) n (s, short) a b d (lines_of_night detail first second (s, short)) both so_far next (ap (lines_of_night detail first second) pair))
      (ap (λ k. flat_map (lines_of_night detail first second) (take k (zip ss ms))) (sym more))

  pub all_nights : (a b : S) (n : ℕ) → n ≡ min (length ss) (length ms)
      → TakesAll takes a b (flat_map (lines_of_night detail first second) (take n (zip ss ms))) → TakesAll takes a b (flat_map (lines_of_night detail first second) (zip ss ms))
  all_nights a b n all so_far =
      taken_same takes a b _ _ so_far (ap (flat_map (lines_of_night detail first second)) (take_all n (zip ss ms) (omega (arith, length-zip ss ms, all))))
