use Rattle.std.proofs.Common.{refl, sym}
use Rattle.ss_report.specs.lines.Lines.{entry_line}
use Rattle.ss_report.proofs.of_writing.LinesTaken.{one_line}
use Rattle.ss_report.proofs.lines.brief.walk_next.Goals as goal

pub returns-then-not-is_listed : goal.returns-then-not-is_listed
returns-then-not-is_listed g c = rw (sym c.is_listed.ensures, c.if-not-is_listed.true) (record { shown = c.walk_missing.ensures; next = refl })

pub returns-then-waiting : goal.returns-then-waiting
returns-then-waiting g c =
    let takes = g.V.LineVisitor.takes c.args.visitor.now in
    let visited = rw c.line_of_entry.ensures at c.visit.ensures in
    rw (sym c.is_listed.ensures, c.if-not-is_listed.false, c.if-waiting.true) (record {
      shown = one_line takes _ _ (entry_line c.args.session.now c.args.group c.args.entry) visited;
      next = refl;
    })

pub returns : goal.returns
returns g c = rw (sym c.is_listed.ensures, c.if-not-is_listed.false, c.if-waiting.false) (record { shown = refl; next = refl })
