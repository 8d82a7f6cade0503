use Rattle.std.proofs.Common.{ap, ◌∙◌, flat_map}
use Rattle.std.proofs.lemmas.List.{take_all}
use Rattle.ss_report.proofs.of_writing.OnceTexts.{yes_line}
use Rattle.ss_report.proofs.of_writing.Writings.{writes_more, writes_same}
use Rattle.ss_report.proofs.texts.questions_once.write_blocks.Goals as goal

pub loop-block-preserved : goal.loop-block-preserved
loop-block-preserved g c =
    let line = yes_line c.args.notation c.args.index c.args.session.now in
    writes_more line c.as_slice-block-items.result.now c.loop-block.block-index _ _ _ _ _ c.loop-block-test.true c.loop-block.invariant c.write_yes.ensures (ap line c.block-item.is)

pub returns : goal.returns
returns g c =
    let line = yes_line c.args.notation c.args.index c.args.session.now in
    writes_same _ _ _ _ c.loop-block.invariant (ap (flat_map line) (take_all c.loop-block.block-index c.as_slice-block-items.result.now c.loop-block-test.false ∙ c.as_slice-block-items.ensures))
