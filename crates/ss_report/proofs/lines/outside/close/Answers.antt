use Rattle.std.proofs.Common.{[], map, refl, sym, ap, subst, arith}
use Rattle.ss_report.specs.lines.Between.{outside_line}
use Rattle.ss_report.proofs.of_reports.OutsideLines.{no_open_line, open_line}
use Rattle.ss_report.proofs.of_writing.LinesTaken.{one_line, taken_same}
use Rattle.ss_report.proofs.lines.outside.close.Goals as goal

pub returns-then-run : goal.returns-then-run
returns-then-run g c =
    let takes = g.V.LineVisitor.takes c.args.visitor.now in
    let line = outside_line c.args.outside.side c.args.outside.session.now in
    let visited = subst (takes c.args.into.now c.visit.new.into) c.line_of_run.ensures c.visit.ensures in
    taken_same takes _ _ _ _ (one_line takes _ _ _ visited) (ap (map line) (sym (open_line c.args.outside.group c.args.run c.if-run.true)))

pub returns-else-run : goal.returns-else-run
returns-else-run g c =
    let takes = g.V.LineVisitor.takes c.args.visitor.now in
    let line = outside_line c.args.outside.side c.args.outside.session.now in
    taken_same takes _ _ [] _ refl (ap (map line) (sym (no_open_line c.args.outside.group c.args.run (omega arith))))
