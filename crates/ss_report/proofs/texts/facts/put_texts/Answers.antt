use Rattle.ss_report.proofs.of_writing.Records.{three_fields}
use Rattle.ss_report.proofs.texts.facts.put_texts.Goals as goal

pub returns : goal.returns
returns g c =
    three_fields _ _ _ _ _ _ _ _ (rw c.front.ensures at c.put.ensures) c.in_ok-put_original.ensures
    (rw (c.requires.reading, c.requires.signed) at c.put_block.ensures)
