use Rattle.std.proofs.Common.{refl}
use Rattle.ss_report.specs.texts.Ending.{damaged_line}
use Rattle.ss_report.proofs.of_writing.Writings.{writes_more}
use Rattle.ss_report.proofs.texts.ending.write_damaged.Goals as goal

pub loop-stretch-preserved : goal.loop-stretch-preserved
loop-stretch-preserved g c =
    writes_more (damaged_line c.args.notation) c.args.damaged.now c.loop-stretch.stretch-index _ _ _ _ _ c.loop-stretch-test.true c.loop-stretch.invariant c.write_stretch.ensures refl
