-- The signed octets of a block as they are kept: its hashes in octets in place of their base64 (RFC 5848, section
-- 4.2.7), and all else as it stands. The signature stands after them.
use Rattle.std.specs.Prelude.{ℕ, ◌+◌, ◌*◌, ◌≤◌, List, ◌++◌, length, take, drop}
use Rattle.ss_block.specs.declared.hash.Hash.{Hash}
use Rattle.ss_block.specs.HashArrays.{hashes_at}
use Rattle.ss_block.specs.Versions.{hash_length}
use Rattle.ss_block.specs.Writing.{hashes_text}
use Rattle.ss_review.specs.declared.keep.packed.Packed.{Packed}

-- how many octets the hashes take
abbrev pub array_long : Packed → ℕ
array_long p = p.count * hash_length p.alg

-- what is kept of the signed octets
abbrev pub kept_packed : Packed → List ℕ
kept_packed p = take p.end p.octets

-- the signature: the octets after those
abbrev pub signature_packed : Packed → List ℕ
signature_packed p = drop p.end p.octets

-- the octets from the first hash on, up to the signature
abbrev pub array_on : Packed → List ℕ
array_on p = drop p.start (kept_packed p)

-- the hashes of HB; none of a certificate block
abbrev pub hashes_packed : Packed → List Hash
hashes_packed p = hashes_at p.alg p.count (array_on p)

-- the octets that stand before the hashes, as they are signed
abbrev pub front_packed : Packed → List ℕ
front_packed p = take p.start (kept_packed p)

-- those after them, up to the signature
abbrev pub back_packed : Packed → List ℕ
back_packed p = drop (array_long p) (array_on p)

-- what is signed: HB spells the hashes
abbrev pub signed_packed : Packed → List ℕ
signed_packed p = front_packed p ++ (hashes_text (hashes_packed p) ++ back_packed p)

-- the hashes lie within what is kept of the signed octets, before the signature
abbrev pub IsPacked : Packed → Type 0
IsPacked p = p.start + array_long p ≤ length (kept_packed p)
