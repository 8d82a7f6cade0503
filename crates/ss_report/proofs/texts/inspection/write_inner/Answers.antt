use Rattle.ss_report.proofs.of_writing.Records.{record_written}
use Rattle.ss_report.proofs.texts.inspection.write_inner.Goals as goal

pub returns : goal.returns
returns g c = record_written _ _ _ _ _ _ _ (rw c.wrapped_kind_of.ensures at c.begin.ensures) c.put_reading.ensures c.end.ensures
