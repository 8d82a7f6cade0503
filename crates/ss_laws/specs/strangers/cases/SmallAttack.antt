-- A small log of one originator that a stranger attacks by one certificate block, and what is reported of it.
use Rattle.std.specs.Prelude.{◌≡◌, ℕ, false, List, [], ◌∷◌, None, Err}
use Rattle.ss_payload.specs.Payload.{payload_text}
use Rattle.ss_block.specs.Writing.{certificate_text}
use Rattle.ss_origin.specs.Ahead.{lives_of}
use Rattle.ss_origin.specs.Chain.{IsChain}
use Rattle.ss_origin.specs.Emission.{certificate_in}
use Rattle.ss_review.specs.declared.report.entry.Why.TheVariants as whys
use Rattle.ss_review.specs.declared.report.session_report.SessionState.TheVariants as states
use Rattle.ss_review.specs.counted.KeptLaws.{ReachTheEnd, counters_kept, IsLost}
use Rattle.ss_review.specs.deliveries.Delivery.{own_session, Delivers, HasPayload}
use Rattle.ss_review.specs.deliveries.Delivered.{own_number}
use Rattle.ss_review.specs.deliveries.DeliveryLaws.{Case, says, AcceptsSent, HasBlock}
use Rattle.ss_review.specs.deliveries.SmallChains.{small, message, certificate, block, bare}
use Rattle.ss_review.specs.keep.Contents.{blocks}
use Rattle.ss_review.specs.keep.Notes.{notes}
use Rattle.ss_review.specs.report.Meaning.{IsGap, IsTold}
use Rattle.ss_review.specs.sessions.Sessions.{of_session}
use Rattle.ss_review.specs.sessions.Verified.{joined}
use Rattle.ss_laws.specs.strangers.AddedMessages.{IsWith, MayBeAdded}
use Rattle.ss_review.specs.pinned.Claimants.{IsOnlyClaimant}
use Rattle.ss_laws.specs.strangers.Unforged.{IsUnforged, pinned_in}
use Rattle.ss_laws.specs.ahead.Reported.{AreAhead, IsReported}

-- the payload of the originator, which is given
abbrev pub own_payload : List ℕ
own_payload = payload_text small.payload

abbrev pub given : List (List ℕ)
given = own_payload ∷ []

-- A certificate block of the originator's session with another last octet. Its signature isn't valid.
abbrev pub forged_certificate : List ℕ
forged_certificate =
    certificate_text small.config.head None
    (record (certificate_in small.config own_payload (record { index = 1; len = 3 })) {
      fragment = 45 ∷ 32 ∷ 85 ∷ [];
      signature = 84 ∷ [];
    })

-- The originator was given one message, which is lost. Its blocks are left, and the stranger's one.
abbrev pub attacked : Case
attacked = record bare { log = forged_certificate ∷ certificate ∷ block 0 1 (message 49 ∷ []) ∷ [] }

-- the log without the stranger's block, where no payload is trusted and no block accepted
abbrev pub untrusting : Case
untrusting = record bare {
  answers = record { trusted = λ payload. false; valid = λ payload octets signature. false };
}

-- The premises are met. Without given payloads the session is disputed. With its payload the lost message is reported. It
-- is reported too up to counters where nothing is trusted.
pub record SmallAttackIsThis : Type 0 where
  pub added : IsWith (MayBeAdded (says attacked) bare.log) bare.log attacked.log
  pub chain : IsChain small attacked.chain
  pub ahead : AreAhead attacked (lives_of small.config attacked.chain)
  pub unforged : IsUnforged attacked given
  pub arrived : HasPayload attacked.chain attacked.log
  pub accepts : AcceptsSent attacked
  pub claimant : IsOnlyClaimant (says attacked) given (of_session (blocks (notes attacked.log)) (own_session small)) own_payload
  pub covered : HasBlock attacked (own_number attacked 0 1)
  pub lost : IsLost attacked (message 49)
  pub reach : ReachTheEnd attacked (counters_kept attacked)
  pub disputed : joined (says attacked) (of_session (blocks (notes attacked.log)) (own_session small)) ≡ Err states.Disputed
  pub told : IsTold (pinned_in attacked given) (own_number attacked 0 1)
  pub gap : IsGap (pinned_in attacked given) (own_number attacked 0 1) whys.Lost
  pub delivers : Delivers small untrusting.chain untrusting.log
  pub untrusted_told : IsReported untrusting (counters_kept untrusting) (own_number untrusting 0 1)
