-- The octets in a wrap are the last of the wrap.
use Rattle.std.proofs.Common.{◌≡◌, ℕ, zero, suc, ◌-◌, ◌<◌, ◌≤◌, Bool, true, false, cond, eqb, List, [], ◌∷◌, ◌++◌, length, take, drop, set, get_or, Option, Some, None, Result, Ok, Err, refl, sym, ap, ◌∙◌, append_assoc, append-nil, arith, length-append}
use Rattle.std.specs.Prelude.{IfSome, option_map, slice_get}
use Rattle.std.specs.Option.{unwrap_or}
use Rattle.std.proofs.Math.Seq.{drop-append_seam}
use Rattle.std.proofs.lemmas.List.{drop_all, take-append-drop}
use Rattle.std.proofs.lemmas.Option.{get_or_from_slice_get, same_Some}
use Rattle.ss_message.specs.declared.fault.BadPart.{BadPart}
use Rattle.ss_message.specs.declared.span.Span.{Span}
use Rattle.ss_message.specs.Layout.{Layout, value_at}
use Rattle.ss_message.specs.Message.{ElementValue, MessageValue}
use Rattle.ss_message.specs.Octets.{part_of}
use Rattle.ss_message.specs.Places.{MsgLies}
use Rattle.ss_message.specs.Reading.{layout_at}
use Rattle.ss_message.proofs.LayoutLaws.{layout_takes}
use Rattle.ss_wrap.specs.Wrap.{wrap_mark, has_wrap_id, after_mark, if_no_element, inner_of, original}
use Rattle.ss_wrap.proofs.Originals.{original_is}
use Rattle.ss_report.specs.log.Held.{last_of}
use Rattle.ss_report.specs.runs.Extraction.{original_or, out_of_wrap}

-- these octets are the last of the text
pub record IsLast (octets text : List ℕ) : Type 0 where
  pub few : length octets ≤ length text
  pub last : last_of (length octets) text ≡ octets

last_octets : (front octets text : List ℕ) → text ≡ front ++ octets → IsLast octets text
last_octets front octets text is =
    let size = length-append front octets in
    let sizes : length text ≡ length (front ++ octets) = ap (λ xs. length xs) is in
    let before : length text - length octets ≡ length front = omega (arith, sizes, size) in
    record {
      few = omega (arith, sizes, size);
      last = (λ i. drop (before i) (is i)) ∙ drop-append_seam front octets;
    }

marked : (msg : Option (List ℕ)) (octets : List ℕ) → after_mark msg ≡ Some octets → (mark : ℕ) × (msg ≡ Some (mark ∷ octets))
marked None octets e = absurd (cc)
marked (Some []) octets e = absurd (cc)
marked (Some (octet ∷ rest)) octets e = by (eqb octet wrap_mark) e
  where
    by : (b : Bool) → cond b (Some rest) None ≡ Some octets → (mark : ℕ) × (Some (octet ∷ rest) ≡ Some (mark ∷ octets))
    by true e = (octet, ap (λ o. Some (octet ∷ unwrap_or o [])) e)
    by false e = absurd (cc)

inner_marked : (v : MessageValue) (octets : List ℕ) → inner_of v ≡ Some octets → after_mark v.msg ≡ Some octets
inner_marked v octets e = by (has_wrap_id v.msgid) v.elements e
  where
    by : (b : Bool) (es : List ElementValue) → cond b (if_no_element es (after_mark v.msg)) None ≡ Some octets → after_mark v.msg ≡ Some octets
    by true [] e = e
    by true (x ∷ es) e = absurd (cc)
    by false es e = absurd (cc)

msg_last : (text before : List ℕ) (msg : Option Span) (mark : ℕ) (octets : List ℕ) → IfSome msg (MsgLies text before) → option_map (part_of text) msg ≡ Some (mark ∷ octets) → IsLast octets text
msg_last text before None mark octets lies e = absurd (cc)
msg_last text before (Some s) mark octets lies e =
    let part : part_of text s ≡ mark ∷ octets = same_Some _ _ e in
    let none : drop s.end text ≡ [] = drop_all s.end text (omega (arith, lies.ends)) in
    let rest : drop s.start text ≡ mark ∷ octets = lies.lies.stands.there ∙ (λ i. part_of text s ++ none i) ∙ append-nil (part_of text s) ∙ part in
    last_octets (take s.start text ++ mark ∷ []) octets text
    (sym (take-append-drop s.start text) ∙ ap (λ xs. take s.start text ++ xs) rest ∙ sym (append_assoc (take s.start text) (mark ∷ []) octets))

pub original_last : (text octets : List ℕ) → original text ≡ Some octets → IsLast octets text
original_last text octets e = by (layout_at text) refl
  where
    by : (r : Result Layout BadPart) → layout_at text ≡ r → IsLast octets text
    by (Ok l) is =
        let m = marked (value_at text l).msg octets (inner_marked (value_at text l) octets (sym (original_is text (Ok l) is) ∙ e)) in
        msg_last text _ l.msg m.0 octets (layout_takes text l is).places.msg m.1
    by (Err fault) is = let none : None ≡ Some octets = sym (original_is text (Err fault) is) ∙ e in absurd (cc)

-- ---- a message is taken out of its wrap where it stands

pub stays_wrapped : (ms : List (List ℕ)) (i : ℕ) (text : List ℕ) → slice_get ms i ≡ Some text → out_of_wrap text ≡ text → ms ≡ set ms i (out_of_wrap (get_or ms i []))
stays_wrapped [] i text e same = absurd (cc)
stays_wrapped (x ∷ ms) zero text e same =
    let is : x ≡ text = same_Some _ _ e in
    ap (λ y. y ∷ ms) (is ∙ sym same ∙ ap out_of_wrap (sym is))
stays_wrapped (x ∷ ms) (suc i) text e same = ap (λ ys. x ∷ ys) (stays_wrapped ms i text e same)

pub no_wrap : (text : List ℕ) → original text ≡ None → out_of_wrap text ≡ text
unfolding out_of_wrap
no_wrap text e = ap (original_or text) e

pub empty_wrap : (text octets : List ℕ) → original text ≡ Some octets → length octets ≡ 0 → out_of_wrap text ≡ text
unfolding out_of_wrap
empty_wrap text [] e none = ap (original_or text) e
empty_wrap text (octet ∷ octets) e none = absurd (omega (arith, none))

whole_wrap : (text octets : List ℕ) → original text ≡ Some octets → 0 < length octets → out_of_wrap text ≡ octets
unfolding out_of_wrap
whole_wrap text [] e some = absurd (omega (arith, some))
whole_wrap text (octet ∷ octets) e some = ap (original_or text) e

pub cut_wrap : (ms now : List (List ℕ)) (i : ℕ) (text octets : List ℕ) → slice_get ms i ≡ Some text → original text ≡ Some octets → 0 < length octets
    → now ≡ set ms i (last_of (length octets) (get_or ms i [])) → now ≡ set ms i (out_of_wrap (get_or ms i []))
cut_wrap ms now i text octets e found some is =
    let there : get_or ms i [] ≡ text = get_or_from_slice_get ms i text [] e in
    is ∙ ap (set ms i) (ap (last_of (length octets)) there ∙ (original_last text octets found).last ∙ sym (whole_wrap text octets found some) ∙ ap out_of_wrap (sym there))

pub few_last : (ms : List (List ℕ)) (i : ℕ) (text octets : List ℕ) → slice_get ms i ≡ Some text → original text ≡ Some octets → length octets ≤ length (get_or ms i [])
few_last ms i text octets e found =
    let there : get_or ms i [] ≡ text = get_or_from_slice_get ms i text [] e in
    omega (arith, ap (λ t. length t) there, (original_last text octets found).few)
