use Rattle.std.proofs.Common.{◌≡◌, ◌++◌, take}
use Rattle.ss_block.specs.HashArrays.{array_of}
use Rattle.ss_block.proofs.hash_array.put_hash_array.Given as goal

abbrev pub invariant-loop-hash : goal.invariant-loop-hash
invariant-loop-hash l = l.out.items ≡ l.fn.out.items ++ array_of (take l.hash-index l.hashes)
