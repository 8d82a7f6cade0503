use Rattle.std.proofs.Common.{[], ◌∷◌, ◌++◌, get_or, map, refl, ap, subst, ◌∙◌}
use Rattle.std.proofs.lemmas.List.{drop_all}
use Rattle.ss_review.specs.announced.Indexed.{row_at}
use Rattle.ss_review.proofs.of_numbers.ByNumber.{IsTold, told_begin, told_all, row_of_next, row_of_same}
use Rattle.ss_review.proofs.announced.only_hashes.only_hashes.Goals as goal
use Rattle.ss_review.proofs.announced.only_hashes.only_hashes.Goals.{then-is_first+in_ok-push, else-is_first}

pub loop-i-init : goal.loop-i-init
loop-i-init c = λ js up known rise. ([], told_begin [] _ (map (row_at js) c.args.rows.now) refl c.in_ok-hashes.ensures.items rise)

pub loop-i-preserved : goal.loop-i-preserved
loop-i-preserved c = λ js up known rise.
    let rows = c.args.rows.now in
    let told = c.loop-i.invariant js up known rise in
    let ks = told.0 in
    let hs = c.loop-i.hashes.items in
    elim c.if-is_first.branch [
      | then-is_first+in_ok-push w ↦ (
        ks ++ (row_at js (get_or rows c.loop-i.i _)).key ∷ [],
        row_of_next js up rows known c.loop-i.i _ c.loop-i-test.true c.get.result c.get.ensures.lookup c.goes_on-goes_on.result c.goes_on-goes_on.ensures
            ks _ hs _ c.loop-i.is_first w.if-is_first.true
            refl
            ((λ j. (w.hashes-is j).items) ∙ w.in_ok-push.ensures.items ∙ ap (λ h. hs ++ h ∷ []) w.only_hash.ensures)
            told.1,
      )
      | else-is_first w ↦ (
        ks,
        row_of_same js up rows known c.loop-i.i _ c.loop-i-test.true c.get.result c.get.ensures.lookup c.goes_on-goes_on.result c.goes_on-goes_on.ensures
            ks _ hs _ c.loop-i.is_first w.if-is_first.false
            refl
            (λ j. (w.hashes-is j).items)
            told.1,
      )
    ]

pub returns : goal.returns
returns c = λ js up known rise.
    let rows = c.args.rows.now in
    let told = c.loop-i.invariant js up known rise in
    let hs = c.loop-i.hashes.items in
    let none = ap (map (row_at js)) (drop_all c.loop-i.i rows c.loop-i-test.false) in
    (told_all told.0 hs c.loop-i.is_first (map (row_at js) rows) (subst (IsTold told.0 hs c.loop-i.is_first (map (row_at js) rows)) none told.1)).1
