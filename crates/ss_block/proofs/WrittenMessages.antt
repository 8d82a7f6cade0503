-- A message with one element and no MSG, written and read again.
use Rattle.std.proofs.Common.{◌≡◌, ℕ, List, Option, Result, true, refl, ap, subst, ◌∙◌}
use Rattle.std.specs.Prelude.{IfOk}
use Rattle.std.proofs.lemmas.Bool.{and_from}
use Rattle.ss_message.specs.Stamp.{Moment}
use Rattle.ss_message.specs.Message.{ElementValue, MessageValue, IsMessage, text, is_timestamp, has_names, has_raws}
use Rattle.ss_message.proofs.LayoutLaws.{layout_again}
use Rattle.ss_block.specs.Head.{HeadValue, IsHead}
use Rattle.ss_block.specs.Reading.{reading, reading_from, value_reading}
use Rattle.ss_block.specs.Session.{session, session_at, session_if_block}
use Rattle.ss_block.specs.Signed.{signed, signed_from, signed_if_block}
use Rattle.ss_block.specs.Writing.{block_message}

pub is_message : (h : HeadValue) (stamp : Option Moment) (e : ElementValue) → IsHead h → is_timestamp stamp ≡ true → has_names e ≡ true → has_raws e ≡ true → IsMessage (block_message h stamp e)
is_message h stamp e head moment names raws = record {
  pri = head.pri;
  stamp = moment;
  hostname = head.hostname;
  app_name = head.app_name;
  procid = head.procid;
  msgid = head.msgid;
  names = and_from _ _ names refl;
  raws = and_from _ _ raws refl;
  ids = refl;
  msg = refl;
}

-- ---- the text of a value is read as that value

pub read_again : (v : MessageValue) → IsMessage v → reading (text v) ≡ value_reading v
unfolding reading
read_again v valid =
    let a = layout_again (text v) v valid refl in
    ap (reading_from (text v)) a.read ∙ ap value_reading a.says

pub signed_again : (v : MessageValue) → IsMessage v → signed (text v) ≡ signed_if_block (value_reading v) v
unfolding signed
signed_again v valid =
    let a = layout_again (text v) v valid refl in
    ap (signed_from (text v)) a.read ∙ ap (λ (w : MessageValue). signed_if_block (value_reading w) w) a.says

pub session_again : (v : MessageValue) → IsMessage v → session (text v) ≡ session_if_block (value_reading v) v
unfolding session
session_again v valid =
    let a = layout_again (text v) v valid refl in
    ap (session_at (text v)) a.read ∙ ap (λ (w : MessageValue). session_if_block (value_reading w) w) a.says

-- what was written of an element is what would be of an equal one
pub written_of : {E : Type 0} (h : HeadValue) (stamp : Option Moment) (e f : ElementValue) (r : Result (List ℕ) E) → e ≡ f → IfOk r (λ t. t ≡ text (block_message h stamp e)) → IfOk r (λ t. t ≡ text (block_message h stamp f))
written_of h stamp e f r same is = subst (λ (x : ElementValue). IfOk r (λ t. t ≡ text (block_message h stamp x))) same is
