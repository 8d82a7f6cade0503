-- The first places, and those of the others so far.
use Rattle.std.proofs.Common.{◌≡◌, ◌++◌, take}
use Rattle.ss_review.proofs.pinned.refusing.together.Given as goal

abbrev pub invariant-loop-place : goal.invariant-loop-place
invariant-loop-place l = l.together.items ≡ l.fn.places ++ take l.place-index l.others
