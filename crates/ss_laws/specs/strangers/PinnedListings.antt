-- What a report by given payloads lists of a log.
use Rattle.std.specs.Prelude.{◌≡◌, ◌↔◌, ℕ, ◌+◌, true, List, map, slice_get, Contains, Some, Ok}
use Rattle.ss_block.specs.Block as block
use Rattle.ss_block.specs.Hashes.{pair, hash_of}
use Rattle.ss_block.specs.Reading.{reading}
use Rattle.ss_block.specs.Session.{session}
use Rattle.ss_block.specs.Signed.{signed}
use Rattle.ss_block.specs.declared.reading.Reading.TheVariants as readings
use Rattle.ss_review.specs.Laws.{ListsWhatIsAnnounced}
use Rattle.ss_review.specs.announced.Announced.{Key, rows}
use Rattle.ss_review.specs.announced.Announcing.{IsAnnounced}
use Rattle.ss_review.specs.assign.Assigned.{assigned}
use Rattle.ss_review.specs.assign.Listing.{IsDue}
use Rattle.ss_review.specs.keep.BlockMessage.{BlockMessage}
use Rattle.ss_review.specs.declared.report.entry.Why.{Why}
use Rattle.ss_review.specs.declared.report.report.Report.{Report}
use Rattle.ss_review.specs.keep.Contents.{normals, blocks, contents}
use Rattle.ss_review.specs.keep.Notes.{Normal, note, notes}
use Rattle.ss_review.specs.report.Meaning.{IsListed, IsGap, IsInOrder}
use Rattle.ss_review.specs.report.Report.{report}
use Rattle.ss_review.specs.sessions.Verified.{Answers}
use Rattle.ss_review.specs.pinned.Pinned.{kept, pinned_contents, pinned_report}
use Rattle.ss_review.specs.pinned.Stands.{IsReportedAs}
use Rattle.ss_laws.specs.strangers.StateLaws.{pinned_joined}

-- the blocks of a log that are kept
abbrev pub kept_in : Answers → List (List ℕ) → List (List ℕ) → List BlockMessage
kept_in says ps log = kept says ps (blocks (notes log))

-- the key is assigned the place, by the blocks that are kept
abbrev pub IsAssignedByKept : Answers → List (List ℕ) → List (List ℕ) → Key → ℕ → Type 0
IsAssignedByKept says ps log k place = assigned (normals (notes log)) (rows says (kept_in says ps log)) k ≡ Some place

-- The message at a place of the log is one without a block. Its hash stands at the key's number in a signature block of
-- the log. That block is kept, and of the key's session and group. The scheme says yes to the signature over the exact
-- octets that are signed of it, under the payload under which its session is joined among the kept blocks.
pub record IsWitnessedByKept (says : Answers) (ps : List (List ℕ)) (log : List (List ℕ)) (k : Key) (place : ℕ) : Type 0 where
  pub message : List ℕ
  pub stored : slice_get log place ≡ Some message
  pub no_block : note message ≡ Normal (pair message)
  pub block_place : ℕ
  pub text : List ℕ
  pub block_stored : slice_get log block_place ≡ Some text
  pub block_kept : Contains (map (λ b. b.place) (kept_in says ps log)) block_place
  pub said : block.Signature
  pub read : reading text ≡ readings.Signature said
  pub session_is : session text ≡ Some k.session
  pub group_is : said.group ≡ k.group
  pub index : ℕ
  pub number : k.number ≡ said.first + index
  pub hash : slice_get said.hashes index ≡ Some (hash_of said.alg message)
  pub payload : List ℕ
  pub payload_joined : pinned_joined says ps (blocks (notes log)) k.session ≡ Ok payload
  pub octets : List ℕ
  pub octets_signed : signed text ≡ Some octets
  pub said_yes : says.valid payload octets said.signature ≡ true

-- What `ListsWhatIsAnnounced` of ss_review states, by the blocks that are kept: the listed messages are exactly those
-- assigned to announced numbers, and exactly those that are due. Each is witnessed, no number and no stored message is
-- listed twice, the report rises, and the gaps are exactly the numbers announced but unmatched.
pub record ListsWhatKeptAnnounce (says : Answers) (ps : List (List ℕ)) (log : List (List ℕ)) (r : Report) : Type 0 where
  pub listed : (k : Key) (place : ℕ) → IsListed r k place ↔ IsAssignedByKept says ps log k place
  pub due : (k : Key) (place : ℕ) → IsListed r k place ↔ IsDue says (pinned_contents says ps (contents (notes log))) k place
  pub witnessed : (k : Key) (place : ℕ) → IsListed r k place → IsWitnessedByKept says ps log k place
  pub number_once : (k : Key) (place other : ℕ) → IsListed r k place → IsListed r k other → place ≡ other
  pub message_once : (k j : Key) (place : ℕ) → IsListed r k place → IsListed r j place → k ≡ j
  pub rising : IsInOrder r
  pub gaps : (k : Key)
      → ((why : Why) × IsGap r k why) ↔ (IsAnnounced says (kept_in says ps log) k
      × ((place : ℕ) → ¬ IsAssignedByKept says ps log k place))

-- Of every log, its report by given payloads, and the other log that stands for it, whose report is one without any.
abbrev pub PinnedReportsListWhatIsAnnounced : Type 0
PinnedReportsListWhatIsAnnounced = (says : Answers) (ps : List (List ℕ)) (log : List (List ℕ))
    → ((other : List (List ℕ)) × IsReportedAs says ps log other × ListsWhatIsAnnounced says other (report says other))
    × ListsWhatKeptAnnounce says ps log (pinned_report says ps (contents (notes log)))
