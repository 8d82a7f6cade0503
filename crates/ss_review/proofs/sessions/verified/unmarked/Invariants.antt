-- The places of those of the blocks so far that aren't marked.
use Rattle.std.proofs.Common.{◌≡◌, Bool, not, length, take, map, filter}
use Rattle.ss_review.specs.keep.BlockMessage.{BlockMessage}
use Rattle.ss_review.proofs.sessions.verified.unmarked.Given as goal

abbrev pub invariant-loop-block : goal.invariant-loop-block
invariant-loop-block l = (f : BlockMessage → Bool) → l.marks ≡ map f l.blocks
    → l.places.items ≡ map (λ b. b.place) (filter (λ b. not (f b)) (take (length l.yielded) l.blocks))
