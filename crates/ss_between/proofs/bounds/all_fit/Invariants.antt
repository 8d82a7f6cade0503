-- Each of the counters so far fits.
use Rattle.std.proofs.Common.{◌<◌, ◌^◌, take}
use Rattle.std.specs.Prelude.{All}
use Rattle.ss_review.specs.declared.counted.counter.Counter.{Counter}
use Rattle.ss_between.proofs.bounds.all_fit.Given as goal

abbrev pub invariant-loop-counter : goal.invariant-loop-counter
invariant-loop-counter l = All (λ (c : Counter). c.next < 2 ^ 64) (take l.counter-index l.counters)
