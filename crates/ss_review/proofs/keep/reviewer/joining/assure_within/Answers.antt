use Rattle.std.proofs.Common.{All, subst}
use Rattle.std.proofs.lemmas.List.{take_all}
use Rattle.std.proofs.lemmas.List.Elements.{All-contains, All-more}
use Rattle.ss_review.specs.keep.BlockMessage.{BlockMessage}
use Rattle.ss_review.specs.keep.Kept.{IsContent}
use Rattle.ss_review.proofs.keep.reviewer.joining.assure_within.Goals as goal

pub loop-block-preserved : goal.loop-block-preserved
loop-block-preserved c =
    All-more (λ (b : BlockMessage). IsContent b.said) c.args.blocks.now c.loop-block.block-index c.block-item.result c.loop-block-test.true c.loop-block.invariant
    (subst (λ (b : BlockMessage). IsContent b.said) c.block-item.is c.assure_in_range.ensures)

pub returns : goal.returns
returns c = λ b d h says.
    let blocks = c.args.blocks.now in
    let all = subst (All (λ (x : BlockMessage). IsContent x.said)) (take_all c.loop-block.block-index blocks c.loop-block-test.false) c.loop-block.invariant in
    let its = subst IsContent says (All-contains (λ (x : BlockMessage). IsContent x.said) blocks b all h) in
    (its.some_index, its.within)
