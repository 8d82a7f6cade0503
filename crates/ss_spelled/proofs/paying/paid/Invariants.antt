use Rattle.std.proofs.Common.{◌≡◌, ◌+◌, ◌/◌, length, take}
use Rattle.std.specs.List.{sum_by}
use Rattle.ss_spelled.specs.Fronts.{fragment_cost}
use Rattle.ss_spelled.proofs.paying.paid.Given as goal

abbrev pub invariant-loop-fragment : goal.invariant-loop-fragment
invariant-loop-fragment l =
    l.left + (length l.fragments / 1024 + 1 + sum_by (fragment_cost l.front) (take l.fragment-index l.fragments)) ≡ l.fn.left
