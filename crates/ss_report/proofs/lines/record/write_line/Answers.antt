use Rattle.ss_report.proofs.of_writing.Records.{record_written}
use Rattle.ss_report.proofs.lines.record.write_line.Goals as goal

pub returns : goal.returns
returns g c = record_written _ _ _ _ _ _ _ (rw c.kind_of.ensures at c.begin.ensures) c.put_fields.ensures c.end.ensures
