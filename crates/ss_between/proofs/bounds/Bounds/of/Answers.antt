use Rattle.std.proofs.Common.{ap}
use Rattle.ss_review.specs.declared.counted.shortfall.LogShortfalls.{LogShortfalls}
use Rattle.ss_between.proofs.Below.{nothing_reviewed}
use Rattle.ss_between.proofs.bounds.Bounds.of.Goals as goal

pub invariant_of-result : goal.invariant_of-result
invariant_of-result c = record {
  below_is = ap (λ (all : LogShortfalls). all.absent) (c.in_ok-all.ensures nothing_reviewed);
  fit = c.all_fit.ensures;
}
