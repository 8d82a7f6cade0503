use Rattle.ss_frame.specs.Watched.{sink_of}
use Rattle.ss_report.specs.forms.Forms.{line_as}
use Rattle.ss_report.specs.lines.Between.{told_beside}
use Rattle.ss_report.proofs.of_reports.TakenLines.{all_written}
use Rattle.ss_report.proofs.lines.writing.write_report_as.Goals as goal

pub returns : goal.returns
returns g c = λ up.
    all_written (sink_of g.W.Write.contents) (line_as c.args.form) _ _ (told_beside c.args.detail c.args.front.now.blocks c.args.report.now c.args.missing.now c.args.ending.now) (c.walk_told.ensures up)
