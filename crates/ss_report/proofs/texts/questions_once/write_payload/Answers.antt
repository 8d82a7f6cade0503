use Rattle.ss_report.proofs.of_writing.Records.{fields_then, record_written}
use Rattle.ss_report.proofs.texts.questions_once.write_payload.Goals as goal

pub returns : goal.returns
returns g c =
    record_written _ _ _ _ _ _ _ c.begin.ensures (fields_then _ _ _ _ _ _ c.put.ensures c.put-2.ensures) c.end.ensures
