-- What a case has of its originators, whether they go on from the last counters or from greater ones.
use Rattle.std.proofs.Common.{◌≡◌, ℕ, true, false, List}
use Rattle.std.specs.List.{Contains}
use Rattle.ss_payload.specs.Payload.{payload_text}
use Rattle.ss_origin.specs.Chain.{emitted_by}
use Rattle.ss_origin.specs.Setting.{IsSetting}
use Rattle.ss_review.specs.keep.BlockMessage.{BlockMessage}
use Rattle.ss_review.specs.keep.Contents.{blocks}
use Rattle.ss_review.specs.deliveries.Delivered.{IsSentBlock, IsStoredBlock, OwnBlocksAreSent, SentBlocksAreStored}
use Rattle.ss_review.specs.deliveries.Delivery.{own_session, is_normal}
use Rattle.ss_review.specs.deliveries.DeliveryLaws.{Case, IsCase, says}
use Rattle.ss_review.specs.keep.Notes.{note, notes}
use Rattle.ss_review.proofs.of_deliveries.SentMessages.{AreAllTurns, turns_of_chain}

pub record IsDelivery (x : Case) : Type 0 where
  pub setting : IsSetting x.s
  pub turns : AreAllTurns x.s x.chain
  pub trusts : (says x).trusted (payload_text x.s.payload) ≡ true
  pub sent : (b : BlockMessage) → Contains (blocks (notes x.log)) b → b.session ≡ own_session x.s → IsSentBlock x b
  pub stored : (m : List ℕ) → Contains x.log m → Contains (emitted_by x.chain) m → is_normal (note m) ≡ false → IsStoredBlock x m

pub of_case : OwnBlocksAreSent → SentBlocksAreStored → (x : Case) → IsCase x → IsDelivery x
of_case sent stored x is = record { setting = is.chain.setting; turns = turns_of_chain x.s x.chain is.chain; trusts = is.trusts; sent = sent x is; stored = stored x is }
