-- What is read of a message with a block.
use Rattle.std.specs.Prelude.{ℕ, Option, Some, None, option_map}
use Rattle.ss_block.specs.Block as block
use Rattle.ss_block.specs.declared.hash.Alg.{Alg}
use Rattle.ss_review.specs.keep.BlockMessage.{BlockContent, Hashes, Fragment}

-- its signature block, if it has one
abbrev pub signature_block_of : BlockContent → Option block.Signature
signature_block_of (Hashes b) = Some b
signature_block_of (Fragment c) = None

-- VER's hash algorithm
abbrev pub alg_said : BlockContent → Alg
alg_said (Hashes b) = b.alg
alg_said (Fragment c) = c.alg

-- its GBC
abbrev pub gbc_of : BlockContent → Option ℕ
gbc_of said = option_map (λ b. b.gbc) (signature_block_of said)
