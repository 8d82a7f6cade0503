use Rattle.std.proofs.Common.{[], ◌∷◌, ◌++◌, get_or, take, map, sym, ap, ◌∙◌, subst}
use Rattle.std.specs.Prelude.{Contains}
use Rattle.std.proofs.lemmas.List.{map_more, take_all}
use Rattle.std.proofs.lemmas.List.Elements.{Contains-get_or}
use Rattle.ss_review.specs.keep.BlockMessage.{BlockMessage}
use Rattle.ss_review.specs.sessions.Sessions.{of_session}
use Rattle.ss_review.specs.sessions.Verified.{answers}
use Rattle.ss_review.specs.pinned.Finding.{IsAskableBlock}
use Rattle.ss_review.specs.pinned.Pinned.{keeps}
use Rattle.ss_review.proofs.pinned.keeping.marks.Goals as goal

pub keeps-requires-clause-askable : goal.keeps-requires-clause-askable
keeps-requires-clause-askable g c =
    let bs = c.args.blocks.now in
    let i = c.loop-block.block-index in
    let b = c.block-item.result in
    subst (IsAskableBlock g.J.Judge.askable c.args.judge.now c.args.sessions.now) (sym c.block-item.is)
    (c.requires.askable (get_or bs i b) (Contains-get_or bs i b c.loop-block-test.true))

pub loop-block-preserved : goal.loop-block-preserved
loop-block-preserved g c = λ ps told right.
    let says = answers g.J.Judge.trusted g.J.Judge.valid c.args.judge.now in
    let bs = c.args.blocks.now in
    let i = c.loop-block.block-index in
    let b = c.block-item.result in
    let kept = map (λ (d : BlockMessage). keeps says ps (of_session bs d.session) d) (take i bs) in
    let stored = subst (Contains bs) (sym c.block-item.is) (Contains-get_or bs i b c.loop-block-test.true) in
    c.in_ok-push.ensures.items
    ∙ (λ j. c.loop-block.invariant ps told right j ++ c.in_ok-keeps.ensures ps bs stored told right j ∷ [])
    ∙ ap (λ (d : BlockMessage). kept ++ keeps says ps (of_session bs d.session) d ∷ []) c.block-item.is
    ∙ sym (map_more (λ (d : BlockMessage). keeps says ps (of_session bs d.session) d) bs i b c.loop-block-test.true)

pub returns : goal.returns
returns g c = λ ps told right.
    let says = answers g.J.Judge.trusted g.J.Judge.valid c.args.judge.now in
    let bs = c.args.blocks.now in
    c.loop-block.invariant ps told right
    ∙ ap (map (λ (d : BlockMessage). keeps says ps (of_session bs d.session) d)) (take_all c.loop-block.block-index bs c.loop-block-test.false)
