use Rattle.ss_report.proofs.of_writing.Records.{record_written}
use Rattle.ss_report.proofs.texts.ending.write_stretch.Goals as goal

pub returns : goal.returns
returns g c = record_written _ _ _ _ _ _ _ c.begin.ensures (rw c.from.ensures at c.put_stretch.ensures) c.end.ensures
