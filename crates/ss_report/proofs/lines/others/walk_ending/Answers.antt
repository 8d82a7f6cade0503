use Rattle.ss_report.specs.lines.Lines.{damage_lines, tail_lines}
use Rattle.ss_report.proofs.of_writing.LinesTaken.{lines_then}
use Rattle.ss_report.proofs.lines.others.walk_ending.Goals as goal

pub returns : goal.returns
returns g c =
    let takes = g.V.LineVisitor.takes c.args.visitor.now in
    let ending = c.args.ending.now in
    lines_then takes _ _ _ (damage_lines c.args.listing ending.damaged) (tail_lines ending.tail) (rw c.as_slice.ensures at c.walk_damage.ensures) c.walk_tail.ensures
