use Rattle.ss_report.proofs.of_writing.Records.{nothing_put}
use Rattle.ss_report.proofs.records.fields.put_known_session.Goals as goal

pub returns-in-None : goal.returns-in-None
returns-in-None g c = rw c.in-None.is (nothing_put _ _)
