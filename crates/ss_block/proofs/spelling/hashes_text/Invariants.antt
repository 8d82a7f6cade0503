use Rattle.std.proofs.Common.{◌≡◌, take}
use Rattle.std.specs.String.{string_bytes}
use Rattle.ss_block.specs.Writing.{hashes_text}
use Rattle.ss_block.proofs.spelling.hashes_text.Given as goal

abbrev pub invariant-loop-i : goal.invariant-loop-i
invariant-loop-i l = string_bytes l.text ≡ hashes_text (take l.i l.hashes)
