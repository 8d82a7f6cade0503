-- The tails of the groups so far.
use Rattle.std.proofs.Common.{◌≡◌, take, flat_map}
use Rattle.ss_block.specs.declared.block.Group.{Group}
use Rattle.ss_review.specs.counted.Kept.{number_in, number_behind, tail_between, AreGroups}
use Rattle.ss_review.specs.counted.KeptSoFar.{led_to}
use Rattle.ss_review.proofs.counted.group_tails.tails.Given as goal

abbrev pub invariant-loop-group : goal.invariant-loop-group
invariant-loop-group l = AreGroups l.groups → l.tails.items ≡ flat_map (λ (g : Group). tail_between g (number_behind l.groups g) (number_in (led_to l.own) g)) (take l.group-index l.group-items)
