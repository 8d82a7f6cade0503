use Rattle.std.proofs.Common.{◌≡◌, drop}
use Rattle.ss_block.specs.Meanings.{are_named}
use Rattle.ss_block.proofs.texts.are_named.Given as goal

abbrev pub invariant-loop-i : goal.invariant-loop-i
invariant-loop-i l = are_named l.source (drop l.i l.parameters) (drop l.i l.names) ≡ are_named l.source l.parameters l.names
