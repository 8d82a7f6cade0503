use Rattle.std.proofs.Common.{ap, ◌∙◌}
use Rattle.ss_review.specs.keep.LogBlocks.{log_blocks}
use Rattle.ss_review.proofs.keep.reviewer.Reviewer.log_blocks.Goals as goal

pub returns : goal.returns
returns c = record {
  blocks = λ ns k. c.in_ok-log_blocks.ensures ∙ ap log_blocks (c.as_slice.ensures.value ∙ k.blocks);
  fault = tt;
}
