use Rattle.ss_report.specs.lines.Between.{is_outside, outside_line}
use Rattle.ss_report.proofs.of_reports.OutsideLines.{entries_done, entries_go_on}
use Rattle.ss_report.proofs.lines.outside.walk_outside.Goals as goal

pub loop-entry-preserved : goal.loop-entry-preserved
loop-entry-preserved g c =
    let line = outside_line c.args.outside.side c.args.outside.session.now in
    let test = is_outside c.args.outside.side c.args.outside.counter in
    entries_go_on (g.V.LineVisitor.takes c.args.visitor.now) line c.args.outside.group test c.args.entries.now c.loop-entry.entry-index _ c.args.into.now c.loop-entry.into c.walk_announced-run.new.into (record { first = 1; last = 0 }) c.loop-entry.run c.walk_announced-run.result
    c.loop-entry-test.true c.loop-entry.invariant c.walk_announced-run.ensures

pub returns : goal.returns
returns g c =
    let line = outside_line c.args.outside.side c.args.outside.session.now in
    let test = is_outside c.args.outside.side c.args.outside.counter in
    entries_done (g.V.LineVisitor.takes c.args.visitor.now) line c.args.outside.group test c.args.entries.now c.loop-entry.entry-index c.args.into.now c.loop-entry.into c.close.new.into c.loop-entry.run
    c.loop-entry-test.false c.loop-entry.invariant c.close.ensures
