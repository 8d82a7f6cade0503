-- What originators of one session sent, and a log into which strangers may have put anything else.
use Rattle.std.specs.Prelude.{◌≡◌, ℕ, true, List, Contains, Ok}
use Rattle.ss_block.specs.Block as block
use Rattle.ss_block.specs.Reading.{reading}
use Rattle.ss_block.specs.declared.reading.Reading.TheVariants as readings
use Rattle.ss_payload.specs.Payload.{payload_text}
use Rattle.ss_origin.specs.Chain.{Turn, emitted_by}
use Rattle.ss_review.specs.keep.BlockMessage.{BlockMessage, Hashes}
use Rattle.ss_review.specs.declared.report.report.Report.{Report}
use Rattle.ss_review.specs.deliveries.Delivery.{own_session}
use Rattle.ss_review.specs.deliveries.DeliveryLaws.{Case, says}
use Rattle.ss_review.specs.keep.Contents.{blocks, contents}
use Rattle.ss_review.specs.keep.Notes.{notes}
use Rattle.ss_review.specs.sessions.Verified.{is_valid}
use Rattle.ss_review.specs.pinned.Pinned.{kept, pinned_report}
use Rattle.ss_laws.specs.strangers.StateLaws.{pinned_joined}

-- ---- what nobody forged

-- Two signature blocks say the same: the same hashes of the same numbers, and one GBC. Their signatures may differ.
pub record SayTheSame (b d : block.Signature) : Type 0 where
  pub group : b.group ≡ d.group
  pub gbc : b.gbc ≡ d.gbc
  pub first : b.first ≡ d.first
  pub hashes : b.hashes ≡ d.hashes

-- a block that the originators sent says the same
pub record IsAsSent (chain : List (List Turn)) (said : block.Signature) : Type 0 where
  pub message : List ℕ
  pub sent : Contains (emitted_by chain) message
  pub block : block.Signature
  pub read : reading message ≡ readings.Signature block
  pub same : SayTheSame said block

-- Each signature block of the session that is valid under the originators' payload says what one that they sent says. So
-- it is if nobody but them has the key of this payload, and they signed for this session nothing else.
abbrev pub NothingIsForged : Case → Type 0
NothingIsForged x = (b : BlockMessage) (said : block.Signature)
    → Contains (blocks (notes x.log)) b → b.session ≡ own_session x.s → b.said ≡ Hashes said
    → is_valid (says x) (payload_text x.s.payload) b ≡ true → IsAsSent x.chain said

-- the session is joined under no other payload than the originators'
abbrev pub IsJoinedUnderNoOther : Case → List (List ℕ) → Type 0
IsJoinedUnderNoOther x ps = (payload : List ℕ)
    → pinned_joined (says x) ps (blocks (notes x.log)) (own_session x.s) ≡ Ok payload
    → payload ≡ payload_text x.s.payload

-- nothing is asked of what else the log holds
pub record IsUnforged (x : Case) (ps : List (List ℕ)) : Type 0 where
  pub nothing : NothingIsForged x
  pub no_other : IsJoinedUnderNoOther x ps

-- ---- what is reported

-- the blocks that are kept
abbrev pub blocks_in : Case → List (List ℕ) → List BlockMessage
blocks_in x ps = kept (says x) ps (blocks (notes x.log))

abbrev pub pinned_in : Case → List (List ℕ) → Report
pinned_in x ps = pinned_report (says x) ps (contents (notes x.log))
