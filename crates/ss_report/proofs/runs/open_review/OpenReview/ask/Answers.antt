use Rattle.ss_frame.specs.Watched.{sink_of}
use Rattle.ss_report.specs.runs.Run.{given}
use Rattle.ss_report.specs.runs.Jobs.{asking_first}
use Rattle.ss_report.proofs.of_reading.Answered.{runs_or_stops, stops_of, fails_by_write}
use Rattle.ss_report.proofs.of_writing.Writings.{writes_then}
use Rattle.ss_report.proofs.runs.open_review.OpenReview.ask.Goals as goal

pub returns-in-Ok-clause-asked : goal.returns-in-Ok-clause-asked
returns-in-Ok-clause-asked g c = λ options before after fed.
    runs_or_stops _ _ _ _ _ _ _ (c.end_run.ensures _ options before after _ _ (c.in-Ok.ensures.made options before after fed c.args.notation) (writes_then _ _ _ _ _ c.write_asked.ensures c.write_questions_end.ensures))

pub returns-in-Ok-clause-untouched : goal.returns-in-Ok-clause-untouched
returns-in-Ok-clause-untouched g c = λ options before after fed.
    fails_by_write _ _ _ _ _ _ _ _ (c.end_run.ensures _ options before after _ _ (c.in-Ok.ensures.made options before after fed c.args.notation) (writes_then _ _ _ _ _ c.write_asked.ensures c.write_questions_end.ensures))

pub returns-in-Err-clause-asked : goal.returns-in-Err-clause-asked
returns-in-Err-clause-asked g c = λ options before after fed.
    let job = asking_first c.args.notation (given c.args.known) in
    let was = sink_of g.W.Write.contents c.args.writer.now in
    stops_of job options before after was was c.in-Err.fault (c.in-Err.ensures.made options before after fed)
