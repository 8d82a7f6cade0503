use Rattle.ss_frame.specs.Watched.{sink_of}
use Rattle.ss_report.proofs.runs.open_review.write_reviewed.Goals as goal

pub returns : goal.returns
returns g c = λ job options before after ready made.
    c.end_run.ensures job options before after (sink_of g.W.Write.contents c.args.writer.now) _ made (c.write_report_as.ensures ready)
