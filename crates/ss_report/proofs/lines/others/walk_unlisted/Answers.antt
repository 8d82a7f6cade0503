use Rattle.std.proofs.Common.{refl}
use Rattle.ss_report.specs.lines.Lines.{UnlistedLine}
use Rattle.ss_report.proofs.of_writing.LinesTaken.{line_more}
use Rattle.ss_report.proofs.lines.others.walk_unlisted.Goals as goal

pub loop-place-preserved : goal.loop-place-preserved
loop-place-preserved g c =
    line_more (g.V.LineVisitor.takes c.args.visitor.now) UnlistedLine c.args.places.now c.loop-place.place-index 0 _ _ _ _ c.loop-place-test.true c.loop-place.invariant c.visit.ensures refl
