use Rattle.std.proofs.Common.{◌≡◌, drop}
use Rattle.ss_origin.specs.Groups.{least_bound}
use Rattle.ss_origin.proofs.grouping.least_bound.Given as goal

abbrev pub invariant-loop-bound : goal.invariant-loop-bound
invariant-loop-bound l = least_bound l.pri l.bounds ≡ least_bound l.pri (drop l.bound-index l.bounds)
