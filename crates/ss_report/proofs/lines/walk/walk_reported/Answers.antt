use Rattle.ss_report.proofs.lines.walk.walk_reported.Goals as goal

pub returns-in-None : goal.returns-in-None
returns-in-None g c = rw c.in-None.is c.walk_sessions.ensures

pub returns-in-Some : goal.returns-in-Some
returns-in-Some g c = rw c.in-Some.is c.walk_missing.ensures
