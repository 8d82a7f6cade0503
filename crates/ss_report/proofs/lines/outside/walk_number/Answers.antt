use Rattle.std.proofs.Common.{refl, sym, ◌∙◌}
use Rattle.ss_report.specs.lines.Between.{outside_line}
use Rattle.ss_report.proofs.of_reports.OutsideLines.{one_begins, one_goes_on}
use Rattle.ss_report.proofs.lines.outside.walk_number.Goals as goal

pub returns-then-follows : goal.returns-then-follows
returns-then-follows g c =
    let line = outside_line c.args.outside.side c.args.outside.session.now in
    one_goes_on (g.V.LineVisitor.takes c.args.visitor.now) line c.args.outside.group _ c.args.run (record { first = c.args.run.first; last = c.args.number }) c.args.number
    (sym c.follows.ensures ∙ c.if-follows.true) refl refl

pub returns : goal.returns
returns g c =
    let line = outside_line c.args.outside.side c.args.outside.session.now in
    one_begins (g.V.LineVisitor.takes c.args.visitor.now) line c.args.outside.group _ _ c.args.run (record { first = c.args.number; last = c.args.number }) c.args.number
    (sym c.follows.ensures ∙ c.if-follows.false) refl refl c.close.ensures
