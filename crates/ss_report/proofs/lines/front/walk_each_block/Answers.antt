use Rattle.std.proofs.Common.{ap, map, refl}
use Rattle.std.proofs.lemmas.List.{take_all}
use Rattle.ss_report.specs.lines.Front.{block_line}
use Rattle.ss_report.proofs.of_writing.LinesTaken.{line_more, taken_same}
use Rattle.ss_report.proofs.lines.front.walk_each_block.Goals as goal

pub loop-block-init : goal.loop-block-init
loop-block-init g c = λ up. refl

pub loop-block-preserved : goal.loop-block-preserved
loop-block-preserved g c = λ up.
    line_more (g.V.LineVisitor.takes c.args.visitor.now) (block_line c.args.refused.now) c.args.blocks.now c.loop-block.block-index _ _ _ _ _ c.loop-block-test.true (c.loop-block.invariant up) (c.walk_block.ensures up)
    (ap (block_line c.args.refused.now) c.block-item.is)

pub returns : goal.returns
returns g c = λ up.
    taken_same (g.V.LineVisitor.takes c.args.visitor.now) _ _ _ _ (c.loop-block.invariant up)
    (ap (map (block_line c.args.refused.now)) (take_all c.loop-block.block-index c.args.blocks.now c.loop-block-test.false))
