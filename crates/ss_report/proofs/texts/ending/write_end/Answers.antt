use Rattle.ss_report.proofs.of_writing.Writings.{writes_then}
use Rattle.ss_report.proofs.texts.ending.write_end.Goals as goal

pub returns : goal.returns
returns g c =
    writes_then _ _ _ _ _ (writes_then _ _ _ _ _ (rw c.as_slice.ensures at c.write_damaged.ensures) c.write_torn.ensures) c.write_number_as.ensures
