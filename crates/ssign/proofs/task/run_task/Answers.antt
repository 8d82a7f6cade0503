use Rattle.std.proofs.Common.{subst}
use Rattle.std.specs.Prelude.{IfErr}
use Rattle.ss_frame.specs.Watched.{source_of, sink_of}
use Rattle.ss_review.specs.sessions.Verified.{answers}
use Rattle.ss_report.specs.runs.Run.{Job, Stops, given}
use Rattle.ssign.specs.Task.{review_of}
use Rattle.ssign.proofs.AskedQuestions.{is_run}
use Rattle.ssign.proofs.task.run_task.Goals as goal

pub returns-in-Review-clause-done : goal.returns-in-Review-clause-done
returns-in-Review-clause-done g c =
    let r = c.args.request in
    let says = answers g.J.Judge.trusted g.J.Judge.valid c.args.judge in
    rw c.in-Review.is (is_run r.reporting.form r.reporting.detail c.beside_of-beside.result (given r.known) says r.reading
    (source_of g.R.Read.remaining c.args.reader.now) (source_of g.R.Read.remaining c.run_review_as.new.run.0)
    (sink_of g.W.Write.contents c.args.writer.now) (sink_of g.W.Write.contents c.run_review_as.new.run.1.0)
    (review_of says r.reporting (given r.known) (given r.first) (given r.counters)) c.run_review_as.result
    (c.beside_of-beside.ensures (given r.known) says) c.run_review_as.ensures.reviewed)

pub returns-in-Review-clause-stopped : goal.returns-in-Review-clause-stopped
returns-in-Review-clause-stopped g c =
    let r = c.args.request in
    let says = answers g.J.Judge.trusted g.J.Judge.valid c.args.judge in
    rw c.in-Review.is (subst
    (λ (job : Job). IfErr c.run_review_as.result (Stops job r.reading
    (source_of g.R.Read.remaining c.args.reader.now) (source_of g.R.Read.remaining c.run_review_as.new.run.0)
    (sink_of g.W.Write.contents c.args.writer.now) (sink_of g.W.Write.contents c.run_review_as.new.run.1.0)))
    (c.beside_of-beside.ensures (given r.known) says) c.run_review_as.ensures.stopped)
