use Rattle.ss_report.specs.lines.Records.{tally_fields}
use Rattle.ss_report.proofs.of_writing.Records.{fields_then, four_fields}
use Rattle.ss_report.proofs.lines.record.put_counts.Goals as goal

pub returns : goal.returns
unfolding tally_fields
returns g c =
    let counts = four_fields _ _ _ _ _ _ _ _ _ _ c.put.ensures c.put-2.ensures c.put-3.ensures c.put-4.ensures in
    fields_then _ _ _ _ _ _ (fields_then _ _ _ _ _ _ counts c.put-5.ensures) c.put-6.ensures
