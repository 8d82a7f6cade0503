use Rattle.ss_block.proofs.HashArrays.{IsLeft}
use Rattle.ss_block.proofs.hash_array.array_hashes.Given as goal

abbrev pub invariant-loop-read : goal.invariant-loop-read
invariant-loop-read l = IsLeft l.alg l.octets l.count l._read l.hashes.items l.rest
