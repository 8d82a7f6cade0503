use Rattle.std.proofs.Common.{take}
use Rattle.std.specs.List.{All}
use Rattle.ss_block.specs.WritingLaws.{IsHash}
use Rattle.ss_signed.proofs.sound.assure_hashes.Given as goal

abbrev pub invariant-loop-hash : goal.invariant-loop-hash
invariant-loop-hash l = All IsHash (take l.hash-index l.hashes)
