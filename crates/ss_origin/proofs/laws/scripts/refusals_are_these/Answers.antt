use Rattle.ss_origin.proofs.RowsTold.{refusals_are_these}
use Rattle.ss_origin.proofs.laws.scripts.refusals_are_these.Goals as goal

pub returns : goal.returns
returns c = refusals_are_these
