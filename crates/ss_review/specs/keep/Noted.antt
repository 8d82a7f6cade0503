-- What is kept of a message once it is read.
use Rattle.std.specs.Prelude.{◌≡◌, ◌+◌, ◌-◌, ◌≤◌, ℕ, List, length, Some}
use Rattle.ss_block.specs.declared.reading.Reading.{Reading}
use Rattle.ss_block.specs.declared.reading.Reading.TheVariants as readings
use Rattle.ss_block.specs.Hashes.{pair}
use Rattle.ss_review.specs.declared.keep.noted.Noted.{Noted}
use Rattle.ss_review.specs.declared.keep.noted.Noted.TheVariants as kinds
use Rattle.ss_block.specs.HashArrays.{text_more}
use Rattle.ss_review.specs.keep.BlockMessage.{BlockMessage}
use Rattle.ss_review.specs.keep.Signatures.{alg_said}
use Rattle.ss_review.specs.keep.Notes.{Normal, Block, Spoilt, note}
use Rattle.ss_review.specs.keep.Contents.{block_in}
use Rattle.ss_review.specs.sessions.Verified.{signature_of}

-- the octets that are kept of what is signed of a message with a block: hashes take fewer than HB
abbrev pub signed_kept : BlockMessage → ℕ
signed_kept b = length b.signed - text_more (alg_said b.said) b.count

-- the octets that are kept of the message: those, and its signature
abbrev pub block_octets : BlockMessage → ℕ
block_octets b = signed_kept b + length (signature_of b.said)

-- the block is that of the text, and no more octets are kept of it than the text has
pub record IsBlockOf (place : ℕ) (text : List ℕ) (b : BlockMessage) : Type 0 where
  pub note : note text ≡ Block text
  pub block : block_in place text ≡ Some b
  pub small : block_octets b ≤ length text

-- this is kept of the message that stands at the place
abbrev pub IsKeptOf : ℕ → List ℕ → Noted → Type 0
IsKeptOf place text kinds.Normal = note text ≡ Normal (pair text)
IsKeptOf place text (kinds.Block b) = IsBlockOf place text b
IsKeptOf place text (kinds.Spoilt cause) = note text ≡ Spoilt cause

-- this is kept of a message with this reading, if that is no block
abbrev pub IsKeptWithoutBlock : Reading → Noted → Type 0
IsKeptWithoutBlock readings.Plain n = n ≡ kinds.Normal
IsKeptWithoutBlock (readings.Unparsed part pos) n = n ≡ kinds.Normal
IsKeptWithoutBlock (readings.Spoilt cause) n = n ≡ kinds.Spoilt cause
IsKeptWithoutBlock (readings.Signature b) n = Unit {0}
IsKeptWithoutBlock (readings.Certificate c) n = Unit {0}
