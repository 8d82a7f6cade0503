use Rattle.ss_report.proofs.of_writing.Records.{fields_then, record_written}
use Rattle.ss_report.proofs.texts.question_text.write_trust.Goals as goal

pub returns : goal.returns
returns g c =
    let asked = fields_then _ _ _ _ _ _ (rw c.as_slice-payload.ensures at c.put.ensures) c.put_about_session.ensures in
    record_written _ _ _ _ _ _ _ c.begin.ensures asked c.end.ensures
