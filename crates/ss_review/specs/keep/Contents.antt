-- The messages of a log by what they are, each with its place: its position in the log, from 0.
use Rattle.std.specs.Prelude.{ℕ, List, length, filter_map, Option, Some, None}
use Rattle.std.specs.List.{enumerate_from}
use Rattle.ss_block.specs.declared.session.Session.{Session}
use Rattle.ss_block.specs.declared.reading.Reading.{Reading}
use Rattle.ss_block.specs.declared.reading.Reading.TheVariants as readings
use Rattle.ss_block.specs.Reading.{reading}
use Rattle.ss_block.specs.Session.{session}
use Rattle.ss_block.specs.Signed.{signed}
use Rattle.ss_review.specs.declared.keep.spoilt.SpoiltPlace.{SpoiltPlace}
use Rattle.ss_review.specs.declared.keep.message.NormalMessage.{NormalMessage}
use Rattle.ss_review.specs.keep.BlockMessage.{BlockMessage, BlockContent, Hashes, Fragment}
use Rattle.ss_review.specs.keep.Notes.{Note, Normal, Block, Spoilt}
use Rattle.ss_review.specs.questions.Shortened.{hash_count}

-- each list by rising place, and how many messages there are
pub record Contents : Type 0 where
  pub normal : List NormalMessage
  pub blocks : List BlockMessage
  pub spoilt : List SpoiltPlace
  pub count : ℕ

abbrev pub said_in : Reading → Option BlockContent
said_in (readings.Signature b) = Some (Hashes b)
said_in (readings.Certificate b) = Some (Fragment b)
said_in readings.Plain = None
said_in (readings.Unparsed part pos) = None
said_in (readings.Spoilt cause) = None

abbrev pub block_with : ℕ → Option BlockContent → Option Session → Option (List ℕ) → Option BlockMessage
block_with place (Some said) (Some session) (Some signed) =
    Some (record { place = place; count = hash_count said; session = session; said = said; signed = signed })
block_with place (Some said) (Some session) None = None
block_with place (Some said) None signed = None
block_with place None session signed = None

-- The block that a text holds. A text with a block has a session and signed octets, so none is left out here.
unfoldable pub block_in : ℕ → List ℕ → Option BlockMessage
block_in place text = block_with place (said_in (reading text)) (session text) (signed text)

abbrev pub normal_at : ℕ → Note → Option NormalMessage
normal_at place (Normal pair) = Some (record { place = place; pair = pair })
normal_at place (Block text) = None
normal_at place (Spoilt cause) = None

abbrev pub block_at : ℕ → Note → Option BlockMessage
block_at place (Normal pair) = None
block_at place (Block text) = block_in place text
block_at place (Spoilt cause) = None

abbrev pub spoilt_at : ℕ → Note → Option SpoiltPlace
spoilt_at place (Normal pair) = None
spoilt_at place (Block text) = None
spoilt_at place (Spoilt cause) = Some (record { place = place; cause = cause })

unfoldable pub normals : List Note → List NormalMessage
normals ns = filter_map (λ (n : ℕ × Note). normal_at n.0 n.1) (enumerate_from 0 ns)

unfoldable pub blocks : List Note → List BlockMessage
blocks ns = filter_map (λ (n : ℕ × Note). block_at n.0 n.1) (enumerate_from 0 ns)

unfoldable pub spoilts : List Note → List SpoiltPlace
spoilts ns = filter_map (λ (n : ℕ × Note). spoilt_at n.0 n.1) (enumerate_from 0 ns)

abbrev pub contents : List Note → Contents
contents ns = record { normal = normals ns; blocks = blocks ns; spoilt = spoilts ns; count = length ns }
