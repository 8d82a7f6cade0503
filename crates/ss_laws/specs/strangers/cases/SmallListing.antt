-- A small log that has everything, into which a stranger wrote a certificate block, and what is listed of it.
use Rattle.std.specs.Prelude.{ℕ, ◌∷◌}
use Rattle.ss_review.specs.deliveries.Delivered.{own_number}
use Rattle.ss_review.specs.deliveries.Delivery.{own_session}
use Rattle.ss_review.specs.deliveries.DeliveryLaws.{Case, says, HasMessage}
use Rattle.ss_review.specs.deliveries.SmallChains.{small, whole}
use Rattle.ss_review.specs.keep.Contents.{blocks, contents}
use Rattle.ss_review.specs.keep.Notes.{notes}
use Rattle.ss_review.specs.sessions.Sessions.{of_session}
use Rattle.ss_laws.specs.strangers.AddedMessages.{IsWith, MayBeAdded}
use Rattle.ss_laws.specs.strangers.PinnedListings.{IsWitnessedByKept}
use Rattle.ss_laws.specs.strangers.cases.SmallAttack.{own_payload, given, forged_certificate}
use Rattle.ss_review.specs.pinned.Claimants.{IsClaimant}
use Rattle.ss_laws.specs.strangers.Strangers.{IsAddedTo}
use Rattle.ss_laws.specs.strangers.Unforged.{pinned_in}

-- The originator's certificate block, its one message and the block of it arrived, and so did the stranger's block.
abbrev pub attacked_whole : Case
attacked_whole = record whole { log = forged_certificate ∷ whole.log }

-- With the originator's payload the message is listed, and a kept block announces it.
pub record SmallListingIsThis : Type 0 where
  pub added : IsWith (MayBeAdded (says attacked_whole) whole.log) whole.log attacked_whole.log
  pub added_to : IsAddedTo (says attacked_whole) given (contents (notes whole.log)) (contents (notes attacked_whole.log))
  pub claimant_before : IsClaimant (says whole) given (of_session (blocks (notes whole.log)) (own_session small)) own_payload
  pub claimant : IsClaimant (says attacked_whole) given (of_session (blocks (notes attacked_whole.log)) (own_session small)) own_payload
  pub listed : HasMessage (pinned_in attacked_whole given) (own_number attacked_whole 0 1)
  pub witnessed : (place : ℕ) × IsWitnessedByKept (says attacked_whole) given attacked_whole.log (own_number attacked_whole 0 1) place
