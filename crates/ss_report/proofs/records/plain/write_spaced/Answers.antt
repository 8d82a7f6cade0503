use Rattle.ss_report.proofs.of_writing.Writings.{writes_then}
use Rattle.ss_report.proofs.records.plain.write_spaced.Goals as goal

pub returns : goal.returns
returns g c = writes_then _ _ _ _ _ c.write_text.ensures c.write_plain_value.ensures
