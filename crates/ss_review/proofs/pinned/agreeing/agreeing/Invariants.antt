-- Which of the blocks so far agree.
use Rattle.std.proofs.Common.{◌≡◌, take, map}
use Rattle.ss_review.specs.sessions.Sectioned.{referred}
use Rattle.ss_review.specs.pinned.Pinned.{agrees_in}
use Rattle.ss_review.proofs.pinned.agreeing.agreeing.Given as goal

abbrev pub invariant-loop-block : goal.invariant-loop-block
invariant-loop-block l = l.agreeing.items ≡ map (λ b. agrees_in l.payload b.said) (referred (take l.block-index l.blocks))
