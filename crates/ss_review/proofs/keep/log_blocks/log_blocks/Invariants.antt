-- The blocks so far.
use Rattle.std.proofs.Common.{◌≡◌, take}
use Rattle.ss_review.specs.keep.LogBlocks.{log_blocks}
use Rattle.ss_review.proofs.keep.log_blocks.log_blocks.Given as goal

abbrev pub invariant-loop-block : goal.invariant-loop-block
invariant-loop-block l = l.blocks.items ≡ log_blocks (take l.block-index l.kept)
