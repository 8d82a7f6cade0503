use Rattle.ss_review.proofs.of_counters.KeptBlocks.{every_block}
use Rattle.ss_review.proofs.laws.kept.every_block_is_told.Goals as goal

pub returns : goal.returns
returns c = every_block c.counted_are_verified.ensures c.counted_or_missing.ensures
