-- What is signed of a block message (RFC 5848, sections 4.2 and 5.3.2): all of it as it stands, except SIGN of its
-- block element and the SP before it.
use Rattle.std.specs.Prelude.{◌≡◌, ℕ, [], Bool, true, length, ◌∷◌, ◌++◌, List, take, map, flat_map, codes, Option, Some}
use Rattle.std.specs.Prelude.{None, Result, Ok, Err, if◌then◌else◌, ◌||◌}
use Rattle.std.specs.Str.{bytes_eq}
use Rattle.ss_octets.specs.Ascii.{opening_bracket, closing_bracket}
use Rattle.ss_message.specs.declared.fault.BadPart.{BadPart}
use Rattle.ss_message.specs.Message.{ParameterValue, ElementValue, MessageValue, IsMessage, text, header_text}
use Rattle.ss_message.specs.Message.{element_text, parameter_text, msg_text}
use Rattle.ss_message.specs.Layout.{Layout, value_at}
use Rattle.ss_message.specs.Reading.{layout_at}
use Rattle.ss_block.specs.declared.reading.Reading.{Reading}
use Rattle.ss_block.specs.declared.reading.Reading.TheVariants.{Plain, Unparsed, Signature, Certificate, Spoilt}
use Rattle.ss_block.specs.declared.block_parameter.BlockParameter.TheVariants as kinds
use Rattle.ss_block.specs.Parameters.{name_of, place_of}
use Rattle.ss_block.specs.Reading.{value_reading}

abbrev pub is_block_id : List ℕ → Bool
is_block_id id = bytes_eq id (codes "ssign") || bytes_eq id (codes "ssign-cert")

-- a block element with only the parameters before SIGN; any other element as it is
abbrev pub unsigned_element : ElementValue → ElementValue
unsigned_element e =
    if is_block_id e.id then record { id = e.id; parameters = take (place_of kinds.Sign) e.parameters } else e

abbrev pub unsigned_value : MessageValue → MessageValue
unsigned_value v = record {
  pri = v.pri;
  stamp = v.stamp;
  hostname = v.hostname;
  app_name = v.app_name;
  procid = v.procid;
  msgid = v.msgid;
  elements = map unsigned_element v.elements;
  msg = v.msg;
}

abbrev pub signed_if_block : Reading → MessageValue → Option (List ℕ)
signed_if_block (Signature b) v = Some (text (unsigned_value v))
signed_if_block (Certificate b) v = Some (text (unsigned_value v))
signed_if_block Plain v = None
signed_if_block (Unparsed part pos) v = None
signed_if_block (Spoilt cause) v = None

abbrev pub signed_from : List ℕ → Result Layout BadPart → Option (List ℕ)
signed_from t (Ok l) = signed_if_block (value_reading (value_at t l)) (value_at t l)
signed_from t (Err e) = None

-- none unless the text is that of a block
unfoldable pub signed : List ℕ → Option (List ℕ)
signed t = signed_from t (layout_at t)

-- The text is that of a message with a block element, whose last parameter is SIGN, and these octets are what is left
-- of it without that parameter and the SP before it: all up to the parameters of the element before it, and all from
-- its `]` on.
pub record IsWithoutSign (t octets : List ℕ) : Type 0 where
  pub value : MessageValue
  pub valid : IsMessage value
  pub spelled : t ≡ text value
  pub before : List ElementValue
  pub id : List ℕ
  pub parameters : List ParameterValue
  pub sign : List ℕ
  pub after : List ElementValue
  pub block : is_block_id id ≡ true
  pub before_sign : length parameters ≡ place_of kinds.Sign
  pub elements : value.elements
      ≡ before ++ record { id = id; parameters = parameters ++ record { name = name_of kinds.Sign; raw = sign } ∷ [] }
      ∷ after
  pub whole : t
      ≡ (header_text value ++ flat_map element_text before ++ opening_bracket ∷ id
      ++ flat_map parameter_text parameters)
      ++ codes " SIGN=\"" ++ sign ++ codes "\"" ++ (closing_bracket ∷ flat_map element_text after ++ msg_text value.msg)
  pub left : octets
      ≡ (header_text value ++ flat_map element_text before ++ opening_bracket ∷ id
      ++ flat_map parameter_text parameters)
      ++ (closing_bracket ∷ flat_map element_text after ++ msg_text value.msg)
