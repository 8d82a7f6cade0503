-- The blocks so far that are marked, and those of the others that are, are all, and the marks that are left are theirs.
use Rattle.std.proofs.Common.{◌≡◌, ◌++◌, Bool, map, filter}
use Rattle.std.specs.Vec.Iter.{into_iter_items}
use Rattle.ss_review.specs.keep.BlockMessage.{BlockMessage}
use Rattle.ss_review.proofs.pinned.keeping.with_mark.Given as goal

abbrev pub invariant-loop-block : goal.invariant-loop-block
invariant-loop-block l = (f : BlockMessage → Bool) → l.fn.marks ≡ map f l.fn.blocks.items
    → (l.left ≡ map f (into_iter_items l.block-iterator))
    × (l.kept.items ++ filter f (into_iter_items l.block-iterator) ≡ filter f l.fn.blocks.items)
