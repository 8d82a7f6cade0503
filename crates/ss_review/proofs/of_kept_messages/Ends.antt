-- What one more message at the end of a log adds.
use Rattle.std.proofs.Common.{◌≡◌, ℕ, ◌+◌, List, [], ◌∷◌, ◌++◌, length, ap, ◌∙◌, arith, length-append}
use Rattle.std.specs.Prelude.{Option}
use Rattle.std.specs.List.{enumerate_from, filter_map, cons_option}
use Rattle.std.proofs.lemmas.List.{map-append, append-nil}
use Rattle.std.proofs.lemmas.List.Elements.{filter_map-append}
use Rattle.ss_block.specs.declared.spoil.Spoil.{Spoil}
use Rattle.ss_review.specs.keep.Notes.{Note, Spoilt, note, notes}
use Rattle.ss_review.specs.keep.Contents.{normal_at, block_at, spoilt_at, normals, blocks, spoilts, contents}
use Rattle.ss_review.specs.sessions.Verified.{Answers}
use Rattle.ss_review.specs.report.Report.{report_of, report}
use Rattle.ss_review.specs.Laws.{with_spoilt}

pub enumerate_from-push : {X : Type 0} (k : ℕ) (xs : List X) (x : X) → enumerate_from k (xs ++ x ∷ []) ≡ enumerate_from k xs ++ (k + length xs, x) ∷ []
enumerate_from-push k [] x = let e : k ≡ k + 0 = omega arith in ap (λ n. (n, x) ∷ []) e
enumerate_from-push k (y ∷ ys) x =
    let e : k + 1 + length ys ≡ k + length (y ∷ ys) = omega arith in
    ap (λ zs. (k, y) ∷ zs) (enumerate_from-push (k + 1) ys x ∙ ap (λ n. enumerate_from (k + 1) ys ++ (n, x) ∷ []) e)

pub told_push : {Y : Type 0} (f : ℕ × Note → Option Y) (ns : List Note) (n : Note) → filter_map f (enumerate_from 0 (ns ++ n ∷ [])) ≡ filter_map f (enumerate_from 0 ns) ++ cons_option (f (length ns, n)) []
told_push f ns n =
    let place : 0 + length ns ≡ length ns = omega arith in
    ap (filter_map f) (enumerate_from-push 0 ns n)
    ∙ filter_map-append f (enumerate_from 0 ns) ((0 + length ns, n) ∷ [])
    ∙ ap (λ k. filter_map f (enumerate_from 0 ns) ++ cons_option (f (k, n)) []) place

pub normals_push : (ns : List Note) (n : Note) → normals (ns ++ n ∷ []) ≡ normals ns ++ cons_option (normal_at (length ns) n) []
unfolding normals
normals_push ns n = told_push (λ (p : ℕ × Note). normal_at p.0 p.1) ns n

pub blocks_push : (ns : List Note) (n : Note) → blocks (ns ++ n ∷ []) ≡ blocks ns ++ cons_option (block_at (length ns) n) []
unfolding blocks
blocks_push ns n = told_push (λ (p : ℕ × Note). block_at p.0 p.1) ns n

pub spoilts_push : (ns : List Note) (n : Note) → spoilts (ns ++ n ∷ []) ≡ spoilts ns ++ cons_option (spoilt_at (length ns) n) []
unfolding spoilts
spoilts_push ns n = told_push (λ (p : ℕ × Note). spoilt_at p.0 p.1) ns n

-- ---- a spoilt message at the end

normals_stay : (ns : List Note) (cause : Spoil) → normals (ns ++ Spoilt cause ∷ []) ≡ normals ns
normals_stay ns cause = normals_push ns (Spoilt cause) ∙ append-nil (normals ns)

blocks_stay : (ns : List Note) (cause : Spoil) → blocks (ns ++ Spoilt cause ∷ []) ≡ blocks ns
blocks_stay ns cause = blocks_push ns (Spoilt cause) ∙ append-nil (blocks ns)

pub count_more : (ns : List Note) (n : Note) → length (ns ++ n ∷ []) ≡ length ns + 1
count_more ns n = omega (arith, length-append ns (n ∷ []))

report_stays : (says : Answers) (ns : List Note) (cause : Spoil) → report_of says (contents (ns ++ Spoilt cause ∷ [])) ≡ with_spoilt (report_of says (contents ns)) cause
unfolding report_of
report_stays says ns cause =
    λ i. report_of says (record {
      normal = normals_stay ns cause i;
      blocks = blocks_stay ns cause i;
      spoilt = spoilts_push ns (Spoilt cause) i;
      count = count_more ns (Spoilt cause) i;
    })

pub spoilt_ends : (says : Answers) (log : List (List ℕ)) (message : List ℕ) (cause : Spoil) → note message ≡ Spoilt cause → report says (log ++ message ∷ []) ≡ with_spoilt (report says log) cause
spoilt_ends says log message cause e =
    ap (λ ns. report_of says (contents ns)) (map-append note log (message ∷ []) ∙ ap (λ n. notes log ++ n ∷ []) e)
    ∙ report_stays says (notes log) cause
