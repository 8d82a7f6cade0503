use Rattle.std.proofs.Common.{refl}
use Rattle.ss_block.specs.Engines.{IsStrict}
use Rattle.ss_block.proofs.hash_text.hashes_of.Goals as goal

pub hash_in-requires : goal.hash_in-requires
unfolding IsStrict
hash_in-requires c = λ text. refl

pub hash_in-requires-2 : goal.hash_in-requires-2
unfolding IsStrict
hash_in-requires-2 c = λ text. refl
