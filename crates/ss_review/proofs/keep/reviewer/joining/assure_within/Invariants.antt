-- What the blocks so far say is in its ranges.
use Rattle.std.proofs.Common.{take, All}
use Rattle.ss_review.specs.keep.Kept.{IsContent}
use Rattle.ss_review.proofs.keep.reviewer.joining.assure_within.Given as goal

abbrev pub invariant-loop-block : goal.invariant-loop-block
invariant-loop-block l = All (λ b. IsContent b.said) (take l.block-index l.blocks)
