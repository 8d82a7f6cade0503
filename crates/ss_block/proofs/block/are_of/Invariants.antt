use Rattle.std.proofs.Common.{◌≡◌, drop}
use Rattle.std.specs.List.{list_all}
use Rattle.ss_block.specs.Block.{is_of}
use Rattle.ss_block.proofs.block.are_of.Given as goal

abbrev pub invariant-loop-hash : goal.invariant-loop-hash
invariant-loop-hash l = list_all (is_of l.alg) l.hashes ≡ list_all (is_of l.alg) (drop l.hash-index l.hashes)
