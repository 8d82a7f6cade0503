use Rattle.std.proofs.Common.{◌≡◌, ◌≤◌, ◌+◌, length}
use Rattle.ss_block.specs.Reading.{pieces}
use Rattle.ss_block.proofs.hash_text.count_pieces.Given as goal

abbrev pub invariant-loop-after : goal.invariant-loop-after
invariant-loop-after l = (l.count + length (pieces l.rest) ≡ length (pieces l.text) + 1) × (l.count + length l.rest ≤ length l.text + 1)

abbrev pub decreases-loop-after : goal.decreases-loop-after
decreases-loop-after l = length l.rest
