-- The entries of a group in brief, one by one.
use Rattle.std.proofs.Common.{◌≡◌, ℕ, ◌+◌, ◌<◌, ◌≤◌, Option, List, [], ◌∷◌, ◌++◌, length, get_or, take, map, filter_map, refl, sym, ap, ◌∙◌, append-nil, append_assoc}
use Rattle.std.specs.List.{cons_option}
use Rattle.std.proofs.lemmas.List.{map-append, take_more, take_all}
use Rattle.std.proofs.lemmas.List.Elements.{filter_map-append}
use Rattle.ss_review.specs.declared.report.entry.Entry.{Entry}
use Rattle.ss_report.specs.declared.lines.brief.Waiting.{Waiting}
use Rattle.ss_report.specs.lines.Brief.{brief, brief_from, nothing_waits, shown_at, waiting_after, waiting_after_all}
use Rattle.ss_report.specs.lines.Lines.{ReportLine}
use Rattle.ss_report.specs.lines.Taken.{TakesAll}
use Rattle.ss_report.proofs.of_writing.LinesTaken.{lines_then, taken_same}

-- some entries, and then others
from_append : (w : Waiting) (xs ys : List Entry) → brief_from w (xs ++ ys) ≡ brief_from w xs ++ brief_from (waiting_after_all w xs) ys
from_append w [] ys = refl
from_append w (x ∷ xs) ys =
    ap (λ es. shown_at w x ++ es) (from_append (waiting_after w x) xs ys)
    ∙ sym (append_assoc (shown_at w x) (brief_from (waiting_after w x) xs) (brief_from (waiting_after_all (waiting_after w x) xs) ys))

behind_append : (w : Waiting) (xs ys : List Entry) → waiting_after_all w (xs ++ ys) ≡ waiting_after_all (waiting_after_all w xs) ys
behind_append w [] ys = refl
behind_append w (x ∷ xs) ys = behind_append (waiting_after w x) xs ys

-- one entry alone
pub one_shown : (w : Waiting) (e : Entry) → brief_from w (e ∷ []) ≡ shown_at w e
one_shown w e = append-nil (shown_at w e)

module _ (h : Entry → Option Entry) (es : List Entry) (i : ℕ) (d : Entry) where
  left_parts : i < length es → filter_map h (take (i + 1) es) ≡ filter_map h (take i es) ++ filter_map h (get_or es i d ∷ [])
  left_parts within = ap (filter_map h) (take_more es i d within) ∙ filter_map-append h (take i es) (get_or es i d ∷ [])

  -- what waits after the entries so far, and then after the next one
  pub behind_more : (w v : Waiting) → i < length es → w ≡ waiting_after_all nothing_waits (filter_map h (take i es))
      → v ≡ waiting_after_all w (filter_map h (get_or es i d ∷ [])) → v ≡ waiting_after_all nothing_waits (filter_map h (take (i + 1) es))
  behind_more w v within so_far next =
      next ∙ ap (λ (u : Waiting). waiting_after_all u (filter_map h (get_or es i d ∷ []))) so_far
      ∙ sym (ap (waiting_after_all nothing_waits) (left_parts within) ∙ behind_append nothing_waits (filter_map h (take i es)) (filter_map h (get_or es i d ∷ [])))

  -- the lines of the entries so far, and then those of the next one
  pub brief_more : {S : Type 0} (takes : S → S → ReportLine → Type 0) (of : Entry → ReportLine) (a b c : S) (w : Waiting) → i < length es
      → w ≡ waiting_after_all nothing_waits (filter_map h (take i es))
      → TakesAll takes a b (map of (brief_from nothing_waits (filter_map h (take i es))))
      → TakesAll takes b c (map of (brief_from w (filter_map h (get_or es i d ∷ []))))
      → TakesAll takes a c (map of (brief_from nothing_waits (filter_map h (take (i + 1) es))))
  brief_more takes of a b c w within waits so_far next =
      let before = filter_map h (take i es) in
      let more = filter_map h (get_or es i d ∷ []) in
      let then = taken_same takes b c _ _ next (ap (λ (u : Waiting). map of (brief_from u more)) waits) in
      taken_same takes a c _ _ (lines_then takes a b c _ _ so_far then)
      (sym (map-append of (brief_from nothing_waits before) (brief_from (waiting_after_all nothing_waits before) more))
      ∙ ap (map of) (sym (ap (brief_from nothing_waits) (left_parts within) ∙ from_append nothing_waits before more)))

-- all entries, and then the one that waits
pub brief_done : {S : Type 0} (takes : S → S → ReportLine → Type 0) (of : Entry → ReportLine) (h : Entry → Option Entry) (es : List Entry) (i : ℕ) (a b c : S) (w : Waiting) → length es ≤ i
    → w ≡ waiting_after_all nothing_waits (filter_map h (take i es))
    → TakesAll takes a b (map of (brief_from nothing_waits (filter_map h (take i es)))) → TakesAll takes b c (map of (cons_option w.entry [])) → TakesAll takes a c (map of (brief (filter_map h es)))
unfolding brief
brief_done takes of h es i a b c w all waits so_far last =
    let some = filter_map h (take i es) in
    let then = taken_same takes b c _ _ last (ap (λ (u : Waiting). map of (cons_option u.entry [])) waits) in
    taken_same takes a c _ _ (lines_then takes a b c _ _ so_far then)
    (sym (map-append of (brief_from nothing_waits some) (cons_option (waiting_after_all nothing_waits some).entry []))
    ∙ ap (λ (xs : List Entry). map of (brief_from nothing_waits (filter_map h xs) ++ cons_option (waiting_after_all nothing_waits (filter_map h xs)).entry [])) (take_all i es all))
