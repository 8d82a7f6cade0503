use Rattle.std.proofs.Common.{filter_map}
use Rattle.ss_between.specs.Between.{entry_left}
use Rattle.ss_report.specs.lines.Lines.{TallyLine}
use Rattle.ss_report.specs.lines.Tally.{tally}
use Rattle.ss_report.proofs.of_writing.LinesTaken.{one_line}
use Rattle.ss_report.proofs.lines.left.walk_tally.Goals as goal

pub returns : goal.returns
returns g c =
    one_line (g.V.LineVisitor.takes c.args.visitor.now) _ _ (TallyLine c.args.session.now c.args.group (tally (filter_map (entry_left c.args.number) c.args.entries.now))) (rw c.of_left-tally.ensures at c.visit.ensures)
