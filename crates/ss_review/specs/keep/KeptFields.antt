-- What of a message with a block is kept where.
use Rattle.std.specs.Prelude.{◌≡◌}
use Rattle.ss_block.specs.SessionPlaces.{session_at}
use Rattle.ss_review.specs.declared.keep.kept_block.KeptFields.{KeptFields}
use Rattle.ss_review.specs.keep.BlockMessage.{BlockMessage}
use Rattle.ss_review.specs.keep.Kept.{IsPackedOf}
use Rattle.ss_review.specs.keep.KeptSender.{places_at}
use Rattle.ss_review.specs.keep.Packed.{kept_packed, signature_packed}
use Rattle.ss_review.specs.sessions.Verified.{signature_of}

-- The signature, the signed octets and the session are the message's. The session is spelled in the octets.
pub record AreFieldsOf (f : KeptFields) (b : BlockMessage) : Type 0 where
  pub signature_is : signature_packed f.packed ≡ signature_of b.said
  pub packed : IsPackedOf f.packed b
  pub session_is : session_at (kept_packed f.packed) (places_at f.sender) ≡ b.session
