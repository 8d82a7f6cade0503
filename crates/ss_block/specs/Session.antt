-- The session of a block message (RFC 5848, section 4.2): who sent it, by HOSTNAME, APP-NAME and PROCID, and RSID.
use Rattle.std.specs.Prelude.{ℕ, List, Option, Some, None, Result, Ok, Err}
use Rattle.ss_message.specs.declared.fault.BadPart.{BadPart}
use Rattle.ss_message.specs.declared.draft.Field.{Field}
use Rattle.ss_message.specs.declared.draft.Field.TheVariants.{Nil, Text}
use Rattle.ss_message.specs.Message.{MessageValue}
use Rattle.ss_message.specs.Layout.{Layout, value_at}
use Rattle.ss_message.specs.Reading.{layout_at}
use Rattle.ss_block.specs.declared.session.Session.{Session}
use Rattle.ss_block.specs.declared.reading.Reading.{Reading}
use Rattle.ss_block.specs.declared.reading.Reading.TheVariants.{Plain, Unparsed, Signature, Certificate, Spoilt}
use Rattle.ss_block.specs.Reading.{value_reading}

abbrev pub field_from : Option (List ℕ) → Field
field_from None = Nil
field_from (Some octets) = Text octets

abbrev pub session_from : MessageValue → ℕ → Session
session_from v rsid =
    record { host = field_from v.hostname; app = field_from v.app_name; procid = field_from v.procid; rsid = rsid }

abbrev pub session_if_block : Reading → MessageValue → Option Session
session_if_block (Signature b) v = Some (session_from v b.rsid)
session_if_block (Certificate b) v = Some (session_from v b.rsid)
session_if_block Plain v = None
session_if_block (Unparsed part pos) v = None
session_if_block (Spoilt cause) v = None

abbrev pub session_at : List ℕ → Result Layout BadPart → Option Session
session_at t (Ok l) = session_if_block (value_reading (value_at t l)) (value_at t l)
session_at t (Err e) = None

-- none unless the text is that of a block
unfoldable pub session : List ℕ → Option Session
session t = session_at t (layout_at t)
