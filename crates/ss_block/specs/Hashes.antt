-- The hashes of a message (RFC 5848, section 4.2.7).
use Rattle.std.specs.Prelude.{ℕ, List}
use Rattle.sha1.specs.Sha1.{sha1}
use Rattle.sha2.specs.Sha256.{sha256}
use Rattle.ss_block.specs.declared.hash.Alg.{Alg}
use Rattle.ss_block.specs.declared.hash.Alg.TheVariants as algs
use Rattle.ss_block.specs.declared.hash.Hash.{Hash}
use Rattle.ss_block.specs.declared.hash.Hash.TheVariants as hashes
use Rattle.ss_block.specs.declared.hash.HashPair.{HashPair}

-- both hashes of a text
unfoldable pub pair : List ℕ → HashPair
pair text = record { sha1 = sha1 text; sha256 = sha256 text }

-- that of a pair by this algorithm
abbrev pub pair_hash : HashPair → Alg → Hash
pair_hash p algs.Sha1 = hashes.Sha1 p.sha1
pair_hash p algs.Sha256 = hashes.Sha256 p.sha256

-- a text's hash by this algorithm
abbrev pub hash_of : Alg → List ℕ → Hash
hash_of alg text = pair_hash (pair text) alg
