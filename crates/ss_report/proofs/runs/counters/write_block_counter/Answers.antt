use Rattle.ss_report.proofs.of_writing.Records.{fields_then, record_written}
use Rattle.ss_report.proofs.runs.counters.write_block_counter.Goals as goal

pub returns : goal.returns
returns g c =
    record_written _ _ _ _ _ _ _ c.begin.ensures (fields_then _ _ _ _ _ _ c.put_session.ensures c.put.ensures) c.end.ensures
