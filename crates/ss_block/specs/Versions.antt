-- VER (RFC 5848, section 4.2.1): protocol version `01`, a hash algorithm, and signature scheme `1`. Here stands all
-- that a version says: its text, its algorithm, and how long a hash is.
use Rattle.std.specs.Prelude.{ℕ, Bool, List, [], ◌∷◌, codes, find, map, Option, unwrap_or, is_some}
use Rattle.std.specs.Str.{bytes_eq}
use Rattle.ss_block.specs.declared.hash.Alg.{Alg}
use Rattle.ss_block.specs.declared.hash.Alg.TheVariants as algs

-- the algorithms that a version names
abbrev pub algorithms : List Alg
algorithms = algs.Sha1 ∷ algs.Sha256 ∷ []

abbrev pub version_text : Alg → List ℕ
version_text algs.Sha1 = codes "0111"
version_text algs.Sha256 = codes "0121"

-- how many octets a hash has
abbrev pub hash_length : Alg → ℕ
hash_length algs.Sha1 = 20
hash_length algs.Sha256 = 32

-- the algorithm whose version a text is
abbrev pub version_in : List ℕ → Option Alg
version_in text = find (λ alg. bytes_eq text (version_text alg)) algorithms

abbrev pub is_version : List ℕ → Bool
is_version text = is_some (version_in text)

-- it means something where `is_version` holds for the text
abbrev pub alg_of : List ℕ → Alg
alg_of text = unwrap_or (version_in text) algs.Sha1

-- the texts of all versions
abbrev pub versions : List (List ℕ)
versions = map version_text algorithms
