-- Wraps are read again, with the octets that are in them.
use Rattle.std.proofs.Common.{◌≡◌, ℕ, ◌≤◌, true, false, List, Option, Some, None, Result, Ok, Err, refl, sym, ◌∙◌, ap, subst, arith, is_some}
use Rattle.std.specs.Option.{unwrap_or}
use Rattle.std.proofs.lemmas.Bool.{cond_both, or_parts, not-false, true≢false}
use Rattle.ss_message.specs.declared.fault.BadPart.{BadPart}
use Rattle.ss_message.specs.declared.draft.Draft.{Draft}
use Rattle.ss_message.specs.Draft.{drafted}
use Rattle.ss_message.specs.Front.{value_if_read}
use Rattle.ss_message.specs.Octets.{is_text}
use Rattle.ss_message.specs.Message.{MessageValue, IsMessage, text, is_timestamp}
use Rattle.ss_message.specs.Reading.{pri_at}
use Rattle.ss_message.specs.Stamp.{Moment}
use Rattle.ss_message.proofs.LayoutLaws.{layout_again}
use Rattle.ss_message.proofs.Priorities.{pri_takes}
use Rattle.ss_block.specs.Head.{HeadValue, IsHead}
use Rattle.ss_block.specs.Reading.{reading}
use Rattle.ss_block.proofs.WrittenMessages.{read_again}
use Rattle.ss_origin.specs.Refusals.{is_plain}
use Rattle.ss_wrap.specs.Wrap.{usual_pri, wrap_value, wrap_text, inner_of, original, original_from, needs_wrap, prepared, unwrapped}

small_pri : (t : List ℕ) (r : Result (ℕ × ℕ) BadPart) → pri_at t ≡ r → unwrap_or (value_if_read r) usual_pri ≤ 191
small_pri t (Ok x) e = (pri_takes t x e).1
small_pri t (Err fault) e = omega arith

pub wraps_are_messages : (h : HeadValue) (stamp : Option Moment) (octets : List ℕ) → IsHead h → is_timestamp stamp ≡ true → IsMessage (wrap_value h stamp octets)
unfolding is_text
wraps_are_messages h stamp octets head time =
    record {
      pri = small_pri octets (pri_at octets) refl;
      stamp = time;
      hostname = head.hostname;
      app_name = head.app_name;
      procid = head.procid;
      msgid = refl;
      names = refl;
      raws = refl;
      ids = refl;
      msg = refl;
    }

-- so what is drafted as a wrap is written
pub draft_is_message : (d : Draft) (h : HeadValue) (stamp : Option Moment) (octets : List ℕ) → drafted d ≡ wrap_value h stamp octets → IsHead h → is_timestamp stamp ≡ true → IsMessage (drafted d)
draft_is_message d h stamp octets same head time = subst IsMessage (sym same) (wraps_are_messages h stamp octets head time)

-- a text that spells a value has in it what the value has
original_again : (v : MessageValue) → IsMessage v → original (text v) ≡ inner_of v
unfolding original
original_again v valid =
    let a = layout_again (text v) v valid refl in
    ap (original_from (text v)) a.read ∙ ap inner_of a.says

pub wraps_are_plain : (h : HeadValue) (stamp : Option Moment) (octets : List ℕ) → IsHead h → is_timestamp stamp ≡ true → is_plain (reading (wrap_text h stamp octets)) ≡ true
unfolding wrap_text
wraps_are_plain h stamp octets head time = ap is_plain (read_again (wrap_value h stamp octets) (wraps_are_messages h stamp octets head time))

pub originals_come_back : (h : HeadValue) (stamp : Option Moment) (octets : List ℕ) → IsHead h → is_timestamp stamp ≡ true → original (wrap_text h stamp octets) ≡ Some octets
unfolding wrap_text
originals_come_back h stamp octets head time = original_again (wrap_value h stamp octets) (wraps_are_messages h stamp octets head time)

same_octets : (x y : List ℕ) → Some x ≡ Some y → x ≡ y
same_octets x y e = ap (λ (o : Option (List ℕ)). unwrap_or o x) e

pub wraps_differ : (g h : HeadValue) (stamp time : Option Moment) (octets other : List ℕ) → IsHead g → IsHead h → is_timestamp stamp ≡ true → is_timestamp time ≡ true → wrap_text g stamp octets ≡ wrap_text h time other → octets ≡ other
wraps_differ g h stamp time octets other is_g is_h is_stamp is_time same =
    same_octets octets other (sym (originals_come_back g stamp octets is_g is_stamp) ∙ ap original same ∙ originals_come_back h time other is_h is_time)

pub wraps_are_wrapped : (h : HeadValue) (stamp : Option Moment) (octets : List ℕ) → IsHead h → is_timestamp stamp ≡ true → needs_wrap (wrap_text h stamp octets) ≡ true
unfolding needs_wrap
wraps_are_wrapped h stamp octets head time = rw (wraps_are_plain h stamp octets head time, originals_come_back h stamp octets head time) refl

-- ---- what is signed for a message

pub prepared_are_plain : (h : HeadValue) (stamp : Option Moment) (message : List ℕ) → IsHead h → is_timestamp stamp ≡ true → is_plain (reading (prepared h stamp message)) ≡ true
unfolding prepared needs_wrap
prepared_are_plain h stamp message head time =
    cond_both (needs_wrap message) (wrap_text h stamp message) message (λ t. is_plain (reading t) ≡ true)
    (λ _. wraps_are_plain h stamp message head time)
    (λ no. not-false (is_plain (reading message)) (or_parts _ _ no).0)

is_none : (o : Option (List ℕ)) → is_some o ≡ false → o ≡ None
is_none None e = refl
is_none (Some x) e = absurd (true≢false e)

pub prepared_come_back : (h : HeadValue) (stamp : Option Moment) (message : List ℕ) → IsHead h → is_timestamp stamp ≡ true → unwrapped (prepared h stamp message) ≡ message
unfolding prepared needs_wrap unwrapped
prepared_come_back h stamp message head time =
    cond_both (needs_wrap message) (wrap_text h stamp message) message (λ t. unwrapped t ≡ message)
    (λ _. ap (λ (o : Option (List ℕ)). unwrap_or o (wrap_text h stamp message)) (originals_come_back h stamp message head time))
    (λ no. ap (λ (o : Option (List ℕ)). unwrap_or o message) (is_none (original message) (or_parts _ _ no).1))

pub prepared_differ : (g h : HeadValue) (stamp time : Option Moment) (message other : List ℕ) → IsHead g → IsHead h → is_timestamp stamp ≡ true → is_timestamp time ≡ true → prepared g stamp message ≡ prepared h time other → message ≡ other
prepared_differ g h stamp time message other is_g is_h is_stamp is_time same =
    sym (prepared_come_back g stamp message is_g is_stamp) ∙ ap unwrapped same ∙ prepared_come_back h time other is_h is_time
