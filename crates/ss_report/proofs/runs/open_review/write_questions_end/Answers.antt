use Rattle.std.proofs.Common.{[]}
use Rattle.std.specs.Prelude.{codes}
use Rattle.ss_report.proofs.of_writing.Records.{nothing_put, record_written}
use Rattle.ss_report.proofs.runs.open_review.write_questions_end.Goals as goal

pub returns : goal.returns
returns g c = record_written c.args.notation _ _ _ _ (codes "end") [] c.begin.ensures (nothing_put c.args.notation _) c.end.ensures
