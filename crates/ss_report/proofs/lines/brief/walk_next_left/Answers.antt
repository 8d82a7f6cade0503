use Rattle.std.proofs.Common.{map, sym, ap, refl}
use Rattle.ss_report.specs.lines.Lines.{entry_line}
use Rattle.ss_report.proofs.of_reports.BriefLines.{one_shown}
use Rattle.ss_report.proofs.of_writing.LinesTaken.{taken_same}
use Rattle.ss_report.proofs.lines.brief.walk_next_left.Goals as goal

pub returns-in-Some : goal.returns-in-Some
returns-in-Some g c =
    let takes = g.V.LineVisitor.takes c.args.visitor.now in
    let line = entry_line c.args.session.now c.args.group in
    rw (sym c.entry_left.ensures, c.in-Some.is) (record {
      shown = taken_same takes _ _ _ _ c.walk_next.ensures.shown (ap (map line) (sym (one_shown c.args.waiting c.in-Some.left)));
      next = c.walk_next.ensures.next;
    })

pub returns-in-None : goal.returns-in-None
returns-in-None g c = rw (sym c.entry_left.ensures, c.in-None.is) (record { shown = refl; next = refl })
