-- Hashes as an array: their octets, one hash after the other, without the base64 of HB (RFC 5848, section 4.2.7).
use Rattle.std.specs.Prelude.{◌≡◌, ℕ, zero, suc, ◌+◌, ◌-◌, ◌*◌, List, [], ◌∷◌, ◌++◌, length, take, drop, flat_map}
use Rattle.ss_block.specs.declared.hash.Alg.{Alg}
use Rattle.ss_block.specs.declared.hash.Alg.TheVariants as algs
use Rattle.ss_block.specs.declared.hash.Hash.{Hash}
use Rattle.ss_block.specs.Reading.{hash_with}
use Rattle.ss_block.specs.Versions.{hash_length}
use Rattle.ss_block.specs.Writing.{hash_octets, hashes_text}

-- the octets of these hashes
abbrev pub array_of : List Hash → List ℕ
array_of hs = flat_map hash_octets hs

-- the first hashes of this algorithm that stand in octets
abbrev pub hashes_at : Alg → ℕ → List ℕ → List Hash
hashes_at alg zero octets = []
hashes_at alg (suc n) octets =
    hash_with alg (take (hash_length alg) octets) ∷ hashes_at alg n (drop (hash_length alg) octets)

-- how many octets more a hash has in base64
abbrev pub base64_more : Alg → ℕ
base64_more algs.Sha1 = 8
base64_more algs.Sha256 = 12

-- how many octets more HB has for so many hashes: the SPs too
abbrev pub text_more : Alg → ℕ → ℕ
text_more alg n = n * base64_more alg + (n - 1)

-- these octets are the array of these hashes of one algorithm, whatever stands after them
pub record IsArray (alg : Alg) (octets : List ℕ) (hs : List Hash) : Type 0 where
  pub long : length octets ≡ length hs * hash_length alg
  pub text : length (hashes_text hs) ≡ length octets + text_more alg (length hs)
  pub read : (after : List ℕ) → hashes_at alg (length hs) (octets ++ after) ≡ hs
