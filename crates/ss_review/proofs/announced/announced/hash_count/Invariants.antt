-- The hashes of the blocks so far.
use Rattle.std.proofs.Common.{◌≡◌, ◌-◌, ◌^◌, length, take}
use Rattle.std.specs.Prelude.{min, sum_by}
use Rattle.ss_review.proofs.announced.announced.hash_count.Given as goal

abbrev pub invariant-loop-announced : goal.invariant-loop-announced
invariant-loop-announced l = l.count ≡ min (sum_by (λ b. length b.block.hashes) (take l.announced-index l.blocks)) (2 ^ 64 - 1)
