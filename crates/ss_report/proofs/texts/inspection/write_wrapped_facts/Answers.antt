use Rattle.ss_report.proofs.of_writing.Records.{fields_then, record_written}
use Rattle.ss_report.proofs.texts.inspection.write_wrapped_facts.Goals as goal

pub returns : goal.returns
returns g c =
    let reading = c.in_ok-reading.ensures.reading in
    let session = c.in_ok-reading.ensures.session in
    record_written _ _ _ _ _ _ _ (rw (c.wrapped_kind_of.ensures, reading) at c.begin.ensures)
    (fields_then _ _ _ _ _ _ (rw (reading, session) at c.put_reading.ensures) c.in_ok-put_facts.ensures) c.end.ensures
