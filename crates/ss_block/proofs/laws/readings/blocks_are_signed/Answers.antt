use Rattle.ss_block.proofs.ReadBlocks.{signed_there, session_there}
use Rattle.ss_block.proofs.laws.readings.blocks_are_signed.Goals as goal

pub returns : goal.returns
returns c = λ t. (signed_there t, session_there t)
