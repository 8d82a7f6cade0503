use Rattle.std.proofs.Common.{refl}
use Rattle.ss_report.proofs.of_writing.Writings.{writes_more}
use Rattle.ss_signing.specs.Ahead.{number_line}
use Rattle.ss_signing.proofs.ahead.write_numbers.Goals as goal

pub loop-group-preserved : goal.loop-group-preserved
loop-group-preserved g c =
    writes_more (number_line c.args.session.now c.args.sg) c.args.numbers.now c.loop-group.group-index _ _ _ _ _ c.loop-group-test.true c.loop-group.invariant c.write_number.ensures refl
