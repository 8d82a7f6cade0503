-- A message with a block as it is kept until a review begins.
use Rattle.ss_review.specs.declared.keep.kept_block.KeptFields.{KeptFields}
use Rattle.ss_review.specs.keep.BlockMessage.{BlockMessage}
use Rattle.ss_review.specs.keep.Kept.{message_kept, IsKept}
use Rattle.ss_review.specs.keep.KeptSender.{places_at}

-- the message that the fields hold
abbrev pub message_of : KeptFields → BlockMessage
message_of f = message_kept f.place (places_at f.sender) f.content f.packed

-- the fields agree
abbrev pub AreKept : KeptFields → Type 0
AreKept f = IsKept (places_at f.sender) f.content f.packed
