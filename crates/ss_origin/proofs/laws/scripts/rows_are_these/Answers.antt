use Rattle.ss_origin.proofs.RowsTold.{rows_are_these}
use Rattle.ss_origin.proofs.laws.scripts.rows_are_these.Goals as goal

pub returns : goal.returns
returns c = rows_are_these
