use Rattle.ss_report.proofs.of_writing.Records.{record_written}
use Rattle.ss_report.proofs.texts.ending.write_number_as.Goals as goal

pub returns : goal.returns
returns g c = record_written _ _ _ _ _ _ _ c.begin.ensures c.put.ensures c.end.ensures
