-- The sessions of a log: whoever sent a block, since one reboot (RFC 5848, section 4.2).
use Rattle.std.specs.Prelude.{Bool, List, map, filter}
use Rattle.std.specs.Ordering.{is_eq}
use Rattle.ss_block.specs.declared.session.Session.{Session}
use Rattle.ss_review.specs.keep.BlockMessage.{BlockMessage}
use Rattle.ss_review.specs.Ordered.{in_order}
use Rattle.ss_block.specs.Order.{session_cmp}

abbrev pub same_session : Session → Session → Bool
same_session a b = is_eq (session_cmp a b)

-- the sessions of these blocks
abbrev pub sessions : List BlockMessage → List Session
sessions bs = in_order session_cmp (map (λ b. b.session) bs)

-- those of one session
abbrev pub of_session : List BlockMessage → Session → List BlockMessage
of_session bs s = filter (λ b. same_session b.session s) bs
