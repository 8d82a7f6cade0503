-- A message inside a message of its own, for a text that an originator can't sign.
use Rattle.std.specs.Prelude.{ℕ, Bool, false, ◌||◌, not, List, [], ◌∷◌, codes, Option, Some, None, Result, Ok}
use Rattle.std.specs.Prelude.{Err, ◌==◌, if◌then◌else◌, is_some}
use Rattle.std.specs.Option.{unwrap_or}
use Rattle.std.specs.Str.{bytes_eq}
use Rattle.ss_message.specs.declared.fault.BadPart.{BadPart}
use Rattle.ss_message.specs.Front.{front_pri}
use Rattle.ss_message.specs.Layout.{Layout, value_at}
use Rattle.ss_message.specs.Message.{ElementValue, MessageValue, text}
use Rattle.ss_message.specs.Reading.{layout_at}
use Rattle.ss_message.specs.Stamp.{Moment}
use Rattle.ss_block.specs.Head.{HeadValue}
use Rattle.ss_block.specs.Reading.{reading}
use Rattle.ss_origin.specs.Refusals.{is_plain}

-- `|`, the first octet of MSG of a wrap. So no byte order mark begins that MSG.
abbrev pub wrap_mark : ℕ
wrap_mark = 124

-- MSGID of a wrap
abbrev pub wrap_id : List ℕ
wrap_id = codes "wrapped"

-- PRI of a wrap where the octets in it begin with none: facility 1 (user-level), severity 5 (notice)
abbrev pub usual_pri : ℕ
usual_pri = 13

-- What a wrap says: PRI with which the octets begin, the header's other fields, and all octets, after the mark.
abbrev pub wrap_value : HeadValue → Option Moment → List ℕ → MessageValue
wrap_value h stamp octets = record {
  pri = unwrap_or (front_pri octets) usual_pri;
  stamp = stamp;
  hostname = h.hostname;
  app_name = h.app_name;
  procid = h.procid;
  msgid = Some wrap_id;
  elements = [];
  msg = Some (wrap_mark ∷ octets);
}

unfoldable pub wrap_text : HeadValue → Option Moment → List ℕ → List ℕ
wrap_text h stamp octets = text (wrap_value h stamp octets)

-- ---- what is in a wrap

abbrev pub has_wrap_id : Option (List ℕ) → Bool
has_wrap_id None = false
has_wrap_id (Some octets) = bytes_eq octets wrap_id

abbrev pub after_mark : Option (List ℕ) → Option (List ℕ)
after_mark None = None
after_mark (Some []) = None
after_mark (Some (octet ∷ octets)) = if octet == wrap_mark then Some octets else None

abbrev pub if_no_element : List ElementValue → Option (List ℕ) → Option (List ℕ)
if_no_element [] inner = inner
if_no_element (e ∷ es) inner = None

-- the octets in a message of the form of a wrap
abbrev pub inner_of : MessageValue → Option (List ℕ)
inner_of v = if has_wrap_id v.msgid then if_no_element v.elements (after_mark v.msg) else None

abbrev pub original_from : List ℕ → Result Layout BadPart → Option (List ℕ)
original_from t (Ok l) = inner_of (value_at t l)
original_from t (Err fault) = None

-- The octets in a text of the form of a wrap: MSGID `wrapped`, no element, and a MSG that begins with the mark.
unfoldable pub original : List ℕ → Option (List ℕ)
original t = original_from t (layout_at t)

-- ---- what is signed for a message

-- An originator can't sign it: it is no message, or has a block element. Or it has the form of a wrap, and would be
-- taken for one.
unfoldable pub needs_wrap : List ℕ → Bool
needs_wrap message = not (is_plain (reading message)) || is_some (original message)

-- the message, or its wrap if it needs one
unfoldable pub prepared : HeadValue → Option Moment → List ℕ → List ℕ
prepared h stamp message = if needs_wrap message then wrap_text h stamp message else message

-- the message for which a text was signed: what is in it, if it has the form of a wrap, else the text itself
unfoldable pub unwrapped : List ℕ → List ℕ
unwrapped t = unwrap_or (original t) t
