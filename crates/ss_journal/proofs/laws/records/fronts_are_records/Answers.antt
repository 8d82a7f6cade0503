use Rattle.ss_journal.proofs.Records.{fronts_are_records}
use Rattle.ss_journal.proofs.laws.records.fronts_are_records.Goals as goal

pub returns : goal.returns
returns c all n hole h is = fronts_are_records all n hole h is
