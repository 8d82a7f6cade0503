use Rattle.ss_report.proofs.of_writing.Records.{three_fields, record_written}
use Rattle.ss_report.proofs.runs.counters.write_message_counter.Goals as goal

pub returns : goal.returns
returns g c =
    record_written _ _ _ _ _ _ _ c.begin.ensures (three_fields _ _ _ _ _ _ _ _ c.put_session.ensures c.put_group.ensures c.put.ensures) c.end.ensures
