use Rattle.ss_report.proofs.runs.review_as.run_review_as.Goals as goal

pub returns-clause-reviewed : goal.returns-clause-reviewed
returns-clause-reviewed g c = c.report.ensures.reviewed _ _ _ c.in_ok-review.ensures.read

pub returns-clause-stopped : goal.returns-clause-stopped
returns-clause-stopped g c = c.report.ensures.stopped _ _ _ c.in_ok-review.ensures.read

pub returns-clause-untouched : goal.returns-clause-untouched
returns-clause-untouched g c = c.report.ensures.untouched _ _ _ c.in_ok-review.ensures.read

pub returns-clause-code : goal.returns-clause-code
returns-clause-code g c = c.report.ensures.code _ _ _ c.in_ok-review.ensures.read
