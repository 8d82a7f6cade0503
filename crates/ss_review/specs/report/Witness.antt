-- The evidence for a listed message.
use Rattle.std.specs.Prelude.{◌≡◌, ℕ, ◌+◌, true, List, slice_get, Some, Ok}
use Rattle.ss_block.specs.declared.reading.Reading.TheVariants as readings
use Rattle.ss_block.specs.Block as block
use Rattle.ss_block.specs.Reading.{reading}
use Rattle.ss_block.specs.Session.{session}
use Rattle.ss_block.specs.Signed.{signed}
use Rattle.ss_block.specs.Hashes.{pair, hash_of}
use Rattle.ss_review.specs.keep.Notes.{Normal, note, notes}
use Rattle.ss_review.specs.keep.Contents.{blocks}
use Rattle.ss_review.specs.sessions.Sessions.{of_session}
use Rattle.ss_review.specs.sessions.Verified.{Answers, joined}
use Rattle.ss_review.specs.announced.Announced.{Key}

-- The message at a place is one without a block; its hash stands at the key's number in a stored signature block of the
-- key's session and group, and the scheme says yes to the signature over the exact octets that are signed of that
-- block, under the session's joined payload.
pub record IsWitnessed (says : Answers) (log : List (List ℕ)) (k : Key) (place : ℕ) : Type 0 where
  pub message : List ℕ
  pub stored : slice_get log place ≡ Some message
  pub no_block : note message ≡ Normal (pair message)
  pub block_place : ℕ
  pub text : List ℕ
  pub block_stored : slice_get log block_place ≡ Some text
  pub said : block.Signature
  pub read : reading text ≡ readings.Signature said
  pub session_is : session text ≡ Some k.session
  pub group_is : said.group ≡ k.group
  pub index : ℕ
  pub number : k.number ≡ said.first + index
  pub hash : slice_get said.hashes index ≡ Some (hash_of said.alg message)
  pub payload : List ℕ
  pub payload_joined : joined says (of_session (blocks (notes log)) k.session) ≡ Ok payload
  pub octets : List ℕ
  pub octets_signed : signed text ≡ Some octets
  pub said_yes : says.valid payload octets said.signature ≡ true
