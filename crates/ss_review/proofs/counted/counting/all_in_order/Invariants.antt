-- The sessions so far, and those that are left, are all.
use Rattle.std.proofs.Common.{◌≡◌, ◌++◌, map}
use Rattle.std.specs.Vec.Iter.{into_iter_items}
use Rattle.ss_review.specs.counted.CountedSoFar.{found_of, counted_in_order}
use Rattle.ss_review.proofs.counted.counting.all_in_order.Given as goal

abbrev pub invariant-loop-session : goal.invariant-loop-session
invariant-loop-session l = l.counted.items ++ map counted_in_order (map found_of (into_iter_items l.session-iterator)) ≡ map counted_in_order (map found_of l.fn.found.items)
