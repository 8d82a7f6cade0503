use Rattle.std.proofs.Common.{◌≡◌, ◌++◌, length}
use Rattle.ss_spelled.proofs.run.taken.Given as goal

abbrev pub invariant-loop-fragment : goal.invariant-loop-fragment
invariant-loop-fragment l = l.list.items ++ l.fragments.keys ≡ l.fn.fragments.keys

abbrev pub decreases-loop-fragment : goal.decreases-loop-fragment
decreases-loop-fragment l = length l.fragments.keys
