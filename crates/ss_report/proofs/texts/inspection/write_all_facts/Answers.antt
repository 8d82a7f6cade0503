use Rattle.ss_report.proofs.of_writing.Records.{fields_then, record_written}
use Rattle.ss_report.proofs.texts.inspection.write_all_facts.Goals as goal

pub returns : goal.returns
returns g c =
    record_written _ _ _ _ _ _ _ (rw (c.kind_of.ensures, c.requires.reading) at c.begin.ensures)
    (fields_then _ _ _ _ _ _ (rw (c.requires.reading, c.requires.session) at c.put_reading.ensures) c.in_ok-put_facts.ensures)
    c.end.ensures
