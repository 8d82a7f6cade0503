use Rattle.ss_report.proofs.of_writing.Writings.{writes_then}
use Rattle.ss_report.proofs.records.json.write_member.Goals as goal

pub returns : goal.returns
returns g c =
    let named = writes_then _ _ _ _ _ (writes_then _ _ _ _ _ c.write_text.ensures c.write_text-2.ensures) c.write_text-3.ensures in
    writes_then _ _ _ _ _ named c.write_json_value.ensures
