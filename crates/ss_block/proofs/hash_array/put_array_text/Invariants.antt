use Rattle.std.proofs.Common.{◌++◌}
use Rattle.ss_block.specs.HashArrays.{hashes_at}
use Rattle.ss_block.specs.Writing.{hashes_text}
use Rattle.ss_block.proofs.HashArrays.{IsLeftText}
use Rattle.ss_block.proofs.hash_array.put_array_text.Given as goal

abbrev pub invariant-loop-i : goal.invariant-loop-i
invariant-loop-i l = IsLeftText l.alg (l.fn.out.items ++ hashes_text (hashes_at l.alg l.count l.octets)) l.count l.i l.out.items l.rest
