use Rattle.ss_report.proofs.of_writing.Records.{four_fields, record_written}
use Rattle.ss_report.proofs.texts.questions_once.write_yes.Goals as goal

pub returns : goal.returns
returns g c =
    let octets = rw c.as_slice-octets.ensures at c.put-2.ensures in
    let signature = rw c.as_slice-signature.ensures at c.put-3.ensures in
    let asked = four_fields _ _ _ _ _ _ _ _ _ _ c.put.ensures octets signature c.put_about_block.ensures in
    record_written _ _ _ _ _ _ _ c.begin.ensures asked c.end.ensures
