use Rattle.ss_laws.proofs.of_ahead.CountedBlocks.{blocks_ahead_are_counted}
use Rattle.ss_laws.proofs.ahead.blocks_are_counted.Goals as goal

pub returns : goal.returns
returns c = blocks_ahead_are_counted
