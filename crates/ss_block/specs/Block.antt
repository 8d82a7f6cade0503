-- What a signature block and a certificate block say (RFC 5848, sections 4.2 and 5.3.2).
use Rattle.std.specs.Prelude.{◌≡◌, ℕ, ◌+◌, ◌≤◌, true, false, Bool, List, length}
use Rattle.std.specs.List.{list_all}
use Rattle.std.specs.Str.{is_utf8}
use Rattle.ss_block.specs.declared.hash.Alg.{Alg}
use Rattle.ss_block.specs.declared.hash.Alg.TheVariants as algs
use Rattle.ss_block.specs.declared.hash.Hash.{Hash}
use Rattle.ss_block.specs.declared.hash.Hash.TheVariants as hashes
use Rattle.ss_block.specs.declared.block.Group.{Group}
use Rattle.ss_block.specs.Ranges.{last_number, past_last_number}
use Rattle.ss_payload.specs.Ranges.{longest_payload}

-- a signature block: the hashes of the messages numbered from `first` on in their group
pub record Signature : Type 0 where
  pub alg : Alg
  pub rsid : ℕ
  pub group : Group
  pub gbc : ℕ
  pub first : ℕ
  pub hashes : List Hash
  pub signature : List ℕ

-- a certificate block: the octets of the payload from `index` on, counted from 1
pub record Certificate : Type 0 where
  pub alg : Alg
  pub rsid : ℕ
  pub group : Group
  pub total : ℕ
  pub index : ℕ
  pub fragment : List ℕ
  pub signature : List ℕ

-- the hash is one of this algorithm
abbrev pub is_of : Alg → Hash → Bool
is_of algs.Sha1 (hashes.Sha1 octets) = true
is_of algs.Sha1 (hashes.Sha256 octets) = false
is_of algs.Sha256 (hashes.Sha1 octets) = false
is_of algs.Sha256 (hashes.Sha256 octets) = true

-- SG is 0 to 3, SPRI 0 to 191
pub record IsGroup (g : Group) : Type 0 where
  pub sg : g.sg ≤ 3
  pub spri : g.spri ≤ 191

-- Every number is at most 9,999,999,999, that of the last message too, which is one below the sum; 1 to 99 hashes, each
-- of VER's algorithm.
pub record IsSignature (b : Signature) : Type 0 where
  pub rsid : b.rsid ≤ last_number
  pub group : IsGroup b.group
  pub gbc : b.gbc ≤ last_number
  pub some_first : 1 ≤ b.first
  pub some_hash : 1 ≤ length b.hashes
  pub at_most_99_hashes : length b.hashes ≤ 99
  pub hashes : list_all (is_of b.alg) b.hashes ≡ true
  pub last : b.first + length b.hashes ≤ past_last_number

-- The fragment is UTF-8, as every value of a parameter, and lies within the payload's 1 to 99,999,999 octets.
pub record IsCertificate (b : Certificate) : Type 0 where
  pub rsid : b.rsid ≤ last_number
  pub group : IsGroup b.group
  pub total : b.total ≤ longest_payload
  pub some_index : 1 ≤ b.index
  pub some_octet : 1 ≤ length b.fragment
  pub at_most_9999_octets : length b.fragment ≤ 9999
  pub within : b.index + length b.fragment ≤ b.total + 1
  pub fragment : is_utf8 b.fragment ≡ true
