-- One more than the greatest value so far.
use Rattle.std.proofs.Common.{◌≡◌, ◌-◌, ◌^◌, take}
use Rattle.std.specs.Prelude.{min}
use Rattle.ss_review.specs.counted.Counted.{next_after}
use Rattle.ss_review.proofs.counted.missing.next_gbc.Given as goal

abbrev pub invariant-loop-gbc : goal.invariant-loop-gbc
invariant-loop-gbc l = l.next ≡ min (next_after (take l.gbc-index l.gbcs)) (2 ^ 64 - 1)
