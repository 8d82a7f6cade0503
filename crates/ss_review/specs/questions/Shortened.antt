-- How many hashes a block holds.
use Rattle.std.specs.Prelude.{ℕ, length}
use Rattle.ss_review.specs.keep.BlockMessage.{BlockContent, Hashes, Fragment}

-- those of a signature block: CNT, where none was left out (RFC 5848, section 4.2.6)
abbrev pub hash_count : BlockContent → ℕ
hash_count (Hashes b) = length b.hashes
hash_count (Fragment c) = 0
