use Rattle.ss_report.specs.lines.Between.{lines_beside}
use Rattle.ss_report.specs.lines.Front.{front_lines}
use Rattle.ss_report.proofs.of_writing.LinesTaken.{lines_then}
use Rattle.ss_report.proofs.lines.walk.walk_told.Goals as goal

pub returns : goal.returns
returns g c = λ up.
    let detail = c.args.detail in
    let report = c.args.report.now in
    lines_then (g.V.LineVisitor.takes c.args.visitor.now) _ _ _ (front_lines detail c.args.front.now.blocks report) (lines_beside detail report c.args.missing.now c.args.ending.now) (c.walk_front.ensures up) c.walk_lines.ensures
