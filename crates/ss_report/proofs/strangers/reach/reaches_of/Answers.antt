use Rattle.std.proofs.Common.{◌++◌, ◌∷◌, [], ap, subst, sym, take, ◌∙◌}
use Rattle.std.proofs.lemmas.List.{take_all, take_more}
use Rattle.ss_review.specs.declared.keep.log_blocks.LogBlock.{LogBlock}
use Rattle.ss_report.specs.strangers.Reaches.{HasReaches}
use Rattle.ss_report.proofs.of_strangers.RaisedReaches.{none_reached}
use Rattle.ss_report.proofs.strangers.reach.reaches_of.Goals as goal

pub loop-block-init : goal.loop-block-init
loop-block-init c = λ up. none_reached c.new-reaches.result c.args.refused.now c.new-reaches.ensures.empty

pub loop-block-preserved : goal.loop-block-preserved
loop-block-preserved c = λ up.
    let bs = c.args.blocks.now in
    let i = c.loop-block.block-index in
    let b = c.block-item.result in
    subst (HasReaches c.add_verified.new.reaches c.args.refused.now)
    (ap (λ (x : LogBlock). take i bs ++ x ∷ []) c.block-item.is ∙ sym (take_more bs i b c.loop-block-test.true))
    (c.in_ok-add_verified.ensures (take i bs) up (c.loop-block.invariant up))

pub returns : goal.returns
returns c = λ up.
    subst (HasReaches c.loop-block.reaches c.args.refused.now) (take_all c.loop-block.block-index c.args.blocks.now c.loop-block-test.false) (c.loop-block.invariant up)
