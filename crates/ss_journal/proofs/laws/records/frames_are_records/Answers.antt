use Rattle.ss_journal.proofs.Records.{records_frames}
use Rattle.ss_journal.proofs.laws.records.frames_are_records.Goals as goal

pub returns : goal.returns
returns c all rest h = records_frames all rest h
