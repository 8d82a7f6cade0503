use Rattle.ss_report.proofs.of_writing.Records.{nothing_put}
use Rattle.ss_report.proofs.lines.record.put_fields.Goals as goal

pub returns-in-Empty : goal.returns-in-Empty
returns-in-Empty g c = rw c.in-Empty.is (nothing_put c.args.notation _)

pub returns-in-NoneListed : goal.returns-in-NoneListed
returns-in-NoneListed g c = rw c.in-NoneListed.is (nothing_put c.args.notation _)
