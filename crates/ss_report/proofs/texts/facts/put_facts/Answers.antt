use Rattle.ss_report.proofs.of_writing.Records.{four_fields}
use Rattle.ss_report.proofs.texts.facts.put_facts.Goals as goal

pub returns : goal.returns
returns g c =
    four_fields _ _ _ _ _ _ _ _ _ _ c.put.ensures (rw c.requires.reading at c.put_timestamp.ensures) c.put_mark.ensures
    c.in_ok-put_texts_if.ensures
