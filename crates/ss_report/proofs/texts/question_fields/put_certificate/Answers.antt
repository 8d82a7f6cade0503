use Rattle.ss_report.specs.texts.Asked.{parameter_fields}
use Rattle.ss_report.proofs.of_writing.Records.{fields_then, four_fields}
use Rattle.ss_report.proofs.texts.question_fields.put_certificate.Goals as goal

pub returns : goal.returns
unfolding parameter_fields
returns g c =
    let front = four_fields _ _ _ _ _ _ _ _ _ _ c.put_version.ensures c.put_group.ensures c.put_small.ensures c.put_small-2.ensures in
    fields_then _ _ _ _ _ _ front c.put_small-3.ensures
