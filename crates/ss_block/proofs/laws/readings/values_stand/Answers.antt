use Rattle.ss_block.proofs.Standings.{stands_for_read, read_from_stands}
use Rattle.ss_block.proofs.laws.readings.values_stand.Goals as goal

pub returns : goal.returns
returns c = (stands_for_read, λ raw value s. read_from_stands s)
