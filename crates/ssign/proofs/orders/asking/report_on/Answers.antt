use Rattle.std.proofs.Common.{Some, subst}
use Rattle.std.specs.Prelude.{IfErr}
use Rattle.ss_frame.specs.Watched.{sink_of}
use Rattle.ss_report.specs.runs.Run.{Job, Stops}
use Rattle.ssign.specs.LogOrder.{said_by}
use Rattle.ssign.specs.Task.{review_of}
use Rattle.ssign.proofs.AskedQuestions.{is_run}
use Rattle.ssign.proofs.orders.asking.report_on.Goals as goal

pub returns-clause-done : goal.returns-clause-done
returns-clause-done g c = λ before after read.
    let a = c.args.asked in
    let says = said_by (Some c.args.answers) in
    is_run a.reporting.form a.reporting.detail c.beside_of-beside.result a.known says a.reading before after
    (sink_of g.W.Write.contents c.args.writer.now) (sink_of g.W.Write.contents c.report.new.writer)
    (review_of says a.reporting a.known a.first a.counters) c.report.result
    (rw (c.items_of.ensures, c.items_of-2.ensures) at (c.beside_of-beside.ensures a.known says))
    (rw c.items_of-list.ensures at (c.report.ensures.reviewed a.reading before after read))

pub returns-clause-stopped : goal.returns-clause-stopped
returns-clause-stopped g c = λ before after read.
    let a = c.args.asked in
    let says = said_by (Some c.args.answers) in
    subst
    (λ (job : Job). IfErr c.report.result (Stops job a.reading before after (sink_of g.W.Write.contents c.args.writer.now) (sink_of g.W.Write.contents c.report.new.writer)))
    (rw (c.items_of.ensures, c.items_of-2.ensures) at (c.beside_of-beside.ensures a.known says))
    (rw c.items_of-list.ensures at (c.report.ensures.stopped a.reading before after read))

pub returns-clause-untouched : goal.returns-clause-untouched
returns-clause-untouched g c = λ before after read. c.report.ensures.untouched c.args.asked.reading before after read
