use Rattle.ss_between.specs.Between.{entry_left}
use Rattle.ss_report.specs.lines.Lines.{entry_line}
use Rattle.ss_report.proofs.of_reports.BriefLines.{behind_more, brief_done, brief_more}
use Rattle.ss_report.proofs.lines.brief.walk_brief_left.Goals as goal

pub loop-entry-preserved : goal.loop-entry-preserved
loop-entry-preserved g c =
    let h = entry_left c.args.number in
    let es = c.args.entries.now in
    let i = c.loop-entry.entry-index in
    let waits = c.loop-entry.invariant.waits in
    record {
      shown = brief_more h es i _ (g.V.LineVisitor.takes c.args.visitor.now) (entry_line c.args.session.now c.args.group) _ _ _ _ c.loop-entry-test.true waits c.loop-entry.invariant.shown c.walk_next_left-waiting.ensures.shown;
      waits = behind_more h es i _ _ _ c.loop-entry-test.true waits c.walk_next_left-waiting.ensures.next;
    }

pub returns : goal.returns
returns g c =
    brief_done (g.V.LineVisitor.takes c.args.visitor.now) (entry_line c.args.session.now c.args.group) (entry_left c.args.number) c.args.entries.now c.loop-entry.entry-index _ _ _ _ c.loop-entry-test.false c.loop-entry.invariant.waits c.loop-entry.invariant.shown c.walk_waiting.ensures
