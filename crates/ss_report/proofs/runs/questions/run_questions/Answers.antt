use Rattle.ss_report.proofs.of_reading.Answered.{runs_if_ok, stops_if_err, fails_by_write, never_of_memory}
use Rattle.ss_report.proofs.runs.questions.run_questions.Goals as goal

pub returns-clause-asked : goal.returns-clause-asked
returns-clause-asked g c =
    runs_if_ok _ _ _ _ _ _ _ (c.end_run.ensures _ _ _ _ _ _ (c.in_ok-asked.ensures.made c.args.notation) c.write_asked.ensures)

pub returns-clause-stopped : goal.returns-clause-stopped
returns-clause-stopped g c =
    stops_if_err _ _ _ _ _ _ _ (c.end_run.ensures _ _ _ _ _ _ (c.in_ok-asked.ensures.made c.args.notation) c.write_asked.ensures)

pub returns-clause-untouched : goal.returns-clause-untouched
returns-clause-untouched g c =
    fails_by_write _ _ _ _ _ _ _ _ (c.end_run.ensures _ _ _ _ _ _ (c.in_ok-asked.ensures.made c.args.notation) c.write_asked.ensures)

pub returns-clause-code : goal.returns-clause-code
returns-clause-code g c =
    never_of_memory _ _ _ _ _ _ _ (c.end_run.ensures _ _ _ _ _ _ (c.in_ok-asked.ensures.made c.args.notation) c.write_asked.ensures)
