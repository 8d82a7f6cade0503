use Rattle.ss_between.specs.Between.{entry_left}
use Rattle.ss_report.specs.lines.Lines.{entry_line}
use Rattle.ss_report.proofs.of_writing.LinesTaken.{left_more}
use Rattle.ss_report.proofs.lines.left.walk_entries_left.Goals as goal

pub loop-entry-preserved : goal.loop-entry-preserved
loop-entry-preserved g c =
    left_more (g.V.LineVisitor.takes c.args.visitor.now) (entry_line c.args.session.now c.args.group) (entry_left c.args.number) c.args.entries.now c.loop-entry.entry-index _ _ _ _ c.loop-entry-test.true c.loop-entry.invariant c.walk_entry_left.ensures
