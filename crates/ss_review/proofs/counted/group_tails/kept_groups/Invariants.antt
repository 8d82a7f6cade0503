-- The groups that the counters so far speak of.
use Rattle.std.proofs.Common.{◌≡◌, take, flat_map}
use Rattle.ss_review.specs.declared.counted.counter.Counter.{Counter}
use Rattle.ss_review.specs.counted.Kept.{group_said}
use Rattle.ss_review.specs.counted.KeptSoFar.{led_to}
use Rattle.ss_review.proofs.counted.group_tails.kept_groups.Given as goal

abbrev pub invariant-loop-counter : goal.invariant-loop-counter
invariant-loop-counter l = l.groups.items ≡ flat_map (λ (c : Counter). group_said c.counts) (led_to (take l.counter-index l.own))
