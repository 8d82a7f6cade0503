-- A SHA-256 of a message has 32 octets.
use Rattle.std.proofs.Common.{ℕ, zero, suc, ◌<◌, List, [], ◌∷◌, ◌++◌, arith}
use Rattle.std.specs.Prelude.{slice_index}
use Rattle.std.specs.Int.{to_be_bytes, bytes_high_first, byte_at, w32}
use Rattle.sha2.specs.Sha256.{digest_bytes, sha256}
use Rattle.sha2.proofs.Facts256.{length-sha256}
use Rattle.ss_block.specs.declared.hash.Alg.TheVariants as algs
use Rattle.ss_block.specs.Hashes.{pair, hash_of}
use Rattle.ss_block.specs.WritingLaws.{IsHash}

-- each octet is below 256
abbrev pub AreOctets : List ℕ → Type 0
AreOctets xs = (i : ℕ) → slice_index xs i < 256

octets-append : (xs ys : List ℕ) → AreOctets xs → AreOctets ys → AreOctets (xs ++ ys)
octets-append [] ys left right i = right i
octets-append (x ∷ xs) ys left right zero = left zero
octets-append (x ∷ xs) ys left right (suc i) = octets-append xs ys (λ j. left (suc j)) right i

byte_below : (k n : ℕ) → byte_at k n < 256
byte_below zero n = omega arith
byte_below (suc k) n = omega arith

high_first-octets : (k n : ℕ) → AreOctets (bytes_high_first k n)
high_first-octets zero n i = omega arith
high_first-octets (suc k) n zero = byte_below k n
high_first-octets (suc k) n (suc i) = high_first-octets k n i

digest-octets : (h : List ℕ) (n : ℕ) → AreOctets (digest_bytes h n)
unfolding digest_bytes
digest-octets h zero i = omega arith
digest-octets h (suc n) i = octets-append (digest_bytes h n) (to_be_bytes w32 (slice_index h n)) (digest-octets h n) (high_first-octets 4 (slice_index h n)) i

sha256-octets : (m : List ℕ) → AreOctets (sha256 m)
unfolding sha256
sha256-octets m = digest-octets _ 8

pub hash_is_hash : (m : List ℕ) → IsHash (hash_of algs.Sha256 m)
unfolding pair
hash_is_hash m = (length-sha256 m, sha256-octets m)
