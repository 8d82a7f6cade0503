use Rattle.std.proofs.Common.{◌≡◌}
use Rattle.std.specs.List.{range_with_len}
use Rattle.ss_origin.specs.Pending.{blocks_pending}
use Rattle.ss_origin.proofs.blocks.pending_blocks.Given as goal

abbrev pub invariant-loop-spri : goal.invariant-loop-spri
invariant-loop-spri l = l.due.items ≡ blocks_pending l.config l.fn.gbc l.slots (range_with_len 0 l.spri)
