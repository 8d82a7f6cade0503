use Rattle.std.proofs.Common.{[], ◌∷◌, ◌++◌, map, refl, ap, subst, ◌∙◌}
use Rattle.std.proofs.lemmas.List.{map-append, drop_all}
use Rattle.ss_review.specs.announced.Numbered.{key_of}
use Rattle.ss_review.specs.announced.Indexed.{row_at}
use Rattle.ss_review.proofs.of_numbers.ByNumber.{IsTold, told_begin, told_all, row_of_next, row_of_same}
use Rattle.ss_review.proofs.announced.only_hashes.numbers.Goals as goal
use Rattle.ss_review.proofs.announced.only_hashes.numbers.Goals.{then-is_first+in_ok-push, else-is_first}

pub loop-i-init : goal.loop-i-init
loop-i-init c = ([], told_begin _ [] (map (row_at c.args.sessions.now) c.args.rows.now) (ap (map key_of) c.in_ok-numbers.ensures.items) refl c.requires.rise)

pub loop-i-preserved : goal.loop-i-preserved
loop-i-preserved c =
    let js = c.args.sessions.now in
    let rows = c.args.rows.now in
    let ks = map key_of c.loop-i.numbers.items in
    let hs = c.loop-i.invariant.0 in
    elim c.if-is_first.branch [
      | then-is_first+in_ok-push w ↦ (
        _,
        row_of_next js c.requires.sessions rows c.requires.known c.loop-i.i _ c.loop-i-test.true c.get.result c.get.ensures.lookup c.goes_on-goes_on.result c.goes_on-goes_on.ensures
            ks _ hs _ c.loop-i.is_first w.if-is_first.true
            (ap (map key_of) ((λ j. (w.numbers-is j).items) ∙ w.in_ok-push.ensures.items) ∙ map-append key_of c.loop-i.numbers.items (w.with_session.result ∷ []) ∙ ap (λ k. ks ++ k ∷ []) w.with_session.ensures)
            refl
            c.loop-i.invariant.1,
      )
      | else-is_first w ↦ (
        hs,
        row_of_same js c.requires.sessions rows c.requires.known c.loop-i.i _ c.loop-i-test.true c.get.result c.get.ensures.lookup c.goes_on-goes_on.result c.goes_on-goes_on.ensures
            ks _ hs _ c.loop-i.is_first w.if-is_first.false
            (λ j. map key_of (w.numbers-is j).items)
            refl
            c.loop-i.invariant.1,
      )
    ]

pub returns : goal.returns
returns c =
    let js = c.args.sessions.now in
    let rows = c.args.rows.now in
    let ks = map key_of c.loop-i.numbers.items in
    let told = c.loop-i.invariant in
    let none = ap (map (row_at js)) (drop_all c.loop-i.i rows c.loop-i-test.false) in
    (told_all ks told.0 c.loop-i.is_first (map (row_at js) rows) (subst (IsTold ks told.0 c.loop-i.is_first (map (row_at js) rows)) none told.1)).0
