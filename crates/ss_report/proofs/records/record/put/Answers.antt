use Rattle.ss_report.specs.declared.notation.Notation.TheVariants.{Plain, Json}
use Rattle.ss_report.proofs.of_writing.Records.{field_written}
use Rattle.ss_report.proofs.records.record.put.Goals as goal

pub returns-in-Plain : goal.returns-in-Plain
returns-in-Plain g c = rw c.in-Plain.is (field_written Plain _ _ _ _ c.write_spaced.ensures)

pub returns-in-Json : goal.returns-in-Json
returns-in-Json g c = rw c.in-Json.is (field_written Json _ _ _ _ c.write_member.ensures)
