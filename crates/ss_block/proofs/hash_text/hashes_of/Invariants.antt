use Rattle.std.proofs.Common.{length}
use Rattle.ss_block.specs.Reading.{hash_in, pieces}
use Rattle.ss_block.proofs.HashTexts.{HasRead}
use Rattle.ss_block.proofs.hash_text.hashes_of.Given as goal

abbrev pub invariant-loop-piece : goal.invariant-loop-piece
invariant-loop-piece l = HasRead (λ text. hash_in l.alg text) (pieces l.text) l.hashes.items (pieces l.rest)

abbrev pub decreases-loop-piece : goal.decreases-loop-piece
decreases-loop-piece l = length l.rest
