-- References to the blocks so far.
use Rattle.std.proofs.Common.{◌≡◌, take}
use Rattle.ss_review.specs.sessions.Sectioned.{referred}
use Rattle.ss_review.proofs.sessions.sectioning.references.Given as goal

abbrev pub invariant-loop-block : goal.invariant-loop-block
invariant-loop-block l = referred l.references.items ≡ take l.block-index l.blocks
