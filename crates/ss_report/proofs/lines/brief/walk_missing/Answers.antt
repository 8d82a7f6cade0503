use Rattle.std.proofs.Common.{[], ◌∷◌}
use Rattle.ss_report.specs.lines.Lines.{entry_line}
use Rattle.ss_report.proofs.of_writing.LinesTaken.{line_then, one_line}
use Rattle.ss_report.proofs.lines.brief.walk_missing.Goals as goal

pub returns-in-Some : goal.returns-in-Some
returns-in-Some g c =
    let takes = g.V.LineVisitor.takes c.args.visitor.now in
    let line = entry_line c.args.session.now c.args.group in
    let first = rw c.line_of_entry.ensures at c.visit.ensures in
    let second = rw c.line_of_entry-in-Some.ensures at c.visit-in-Some.ensures in
    rw c.in-Some.is (line_then takes _ _ _ (line c.in-Some.listed) (line c.args.entry ∷ []) first (one_line takes _ _ (line c.args.entry) second))

pub returns-in-None : goal.returns-in-None
returns-in-None g c =
    let takes = g.V.LineVisitor.takes c.args.visitor.now in
    let only = rw c.line_of_entry-in-None.ensures at c.visit-in-None.ensures in
    rw c.in-None.is (one_line takes _ _ (entry_line c.args.session.now c.args.group c.args.entry) only)
