-- Where STRUCTURED-DATA lies in a message: after the header and before MSG.
use Rattle.std.proofs.Common.{◌≡◌, ℕ, ◌+◌, ◌<◌, ◌≤◌, List, [], ◌∷◌, ◌++◌, length, drop, ap, ◌∙◌, sym, append_assoc, arith}
use Rattle.std.proofs.lemmas.List.{length-append, length-drop}
use Rattle.ss_message.specs.Message.{ElementValue, MessageValue, field_text, header_text, before_msgid, structured_text, msg_text, text}
use Rattle.ss_message.specs.Layout.{Layout, value_at}
use Rattle.ss_message.specs.Places.{ElementsLie, PartsLie}

-- the text of a message, and its header
pub text_parts : (v : MessageValue) → text v ≡ header_text v ++ (structured_text v.elements ++ msg_text v.msg)
unfolding text
text_parts v = simp append_assoc

header_parts : (v : MessageValue) → header_text v ≡ before_msgid v ++ (field_text v.msgid ++ 32 ∷ [])
header_parts v = simp append_assoc

-- the elements, if there are any, follow one another after the header
pub record Follows (t : List ℕ) (l : Layout) : Type 0 where
  pub end : ℕ
  pub lie : ElementsLie t (l.msgid.end + 1) l.elements end
  pub header : l.msgid.end + 1 ≡ length (header_text (value_at t l))
  pub inside : l.msgid.end + 1 ≤ length t

some_structured : (es : List ElementValue) → 0 < length (structured_text es)
some_structured [] = omega arith
some_structured (e ∷ es) = omega arith

pub follows : (t : List ℕ) (l : Layout) → PartsLie t l → 0 < length l.elements → Follows t l
follows t l places some =
    let v : MessageValue = value_at t l in
    let octets : List ℕ = structured_text v.elements in
    let msgid = places.msgid.lies in
    let long = ap (λ (x : List ℕ). length x) (header_parts v) ∙ length-append (before_msgid v) (field_text v.msgid ++ 32 ∷ []) in
    let left = sym (length-drop (l.msgid.end + 1) t) ∙ ap (λ (x : List ℕ). length x) places.structured.there ∙ length-append octets (drop places.structured_end t) in
    record {
      end = places.structured_end;
      lie = places.in_place some;
      header = omega (arith, long, length-append (field_text v.msgid) (32 ∷ []), msgid.behind.ends, msgid.stands.ends);
      inside = omega (arith, left, some_structured v.elements);
    }
