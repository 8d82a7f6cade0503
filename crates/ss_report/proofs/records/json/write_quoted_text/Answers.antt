use Rattle.ss_report.proofs.of_writing.Writings.{writes_then}
use Rattle.ss_report.proofs.records.json.write_quoted_text.Goals as goal

pub returns : goal.returns
returns g c = writes_then _ _ _ _ _ (writes_then _ _ _ _ _ c.write_text.ensures c.write_escaped.ensures) c.write_text-2.ensures
