-- The SIGN parameter of a block in its text, and what is left without it.
use Rattle.std.proofs.Common.{◌≡◌, ℕ, true, ◌+◌, ◌-◌, ◌<◌, ◌≤◌, List, [], ◌∷◌, ◌++◌, length, take, drop, Some, None, refl, sym, ap, subst, ◌∙◌, append_assoc, arith}
use Rattle.std.specs.Prelude.{codes}
use Rattle.std.specs.List.{flat_map, slice_get}
use Rattle.std.proofs.lemmas.List.{length-append, append-nil, take_at, drop_at}
use Rattle.std.proofs.lemmas.Grind.{flat_map-append}
use Rattle.ss_message.specs.declared.message.Parameter.{Parameter}
use Rattle.ss_message.specs.declared.message.Element.{Element}
use Rattle.ss_message.specs.declared.message.Message.{Message}
use Rattle.ss_message.specs.Message.{ParameterValue, ElementValue, MessageValue, IsMessage, header_text, structured_text, element_text, parameter_text, msg_text, text}
use Rattle.ss_message.specs.Layout.{Layout, layout_of, value_of, parameter_value, parameter_values, element_values, value_at}
use Rattle.ss_message.specs.Elements.{element_from}
use Rattle.ss_message.specs.Places.{PartsLie}
use Rattle.ss_block.specs.SignPlace.{block_id, sign_parameter}
use Rattle.ss_block.specs.Parsed.{IsRead}
use Rattle.ss_block.specs.Reading.{value_reading}
use Rattle.ss_block.specs.Signed.{is_block_id, unsigned_value, IsWithoutSign}
use Rattle.ss_block.specs.declared.reading.Reading.{Reading}
use Rattle.ss_block.specs.declared.reading.Reading.TheVariants.{Plain, Unparsed, Signature, Certificate, Spoilt}
use Rattle.ss_block.proofs.Blocks.{BlockElement, with_block}
use Rattle.ss_block.proofs.Layouts.{text_parts, follows}
use Rattle.ss_block.proofs.Placing.{element_placed, parameter_placed}

-- ---- a text round an element

structured_is : (before : List ElementValue) (e : ElementValue) (after : List ElementValue) → structured_text (before ++ e ∷ after) ≡ flat_map element_text before ++ (element_text e ++ flat_map element_text after)
structured_is [] e after = refl
structured_is (b ∷ before) e after = flat_map-append element_text (b ∷ before) (e ∷ after)

regrouped : (H F I P A M : List ℕ) → H ++ ((F ++ ((91 ∷ (I ++ (P ++ 93 ∷ []))) ++ A)) ++ M) ≡ (H ++ F ++ 91 ∷ I ++ P) ++ (93 ∷ A ++ M)
regrouped H F I P A M = simp append_assoc

-- the octets up to the parameters of an element, and those from its `]` on
abbrev pub front_of : MessageValue → List ElementValue → List ℕ → List ParameterValue → List ℕ
front_of v before id ps = header_text v ++ flat_map element_text before ++ 91 ∷ id ++ flat_map parameter_text ps

abbrev pub back_of : MessageValue → List ElementValue → List ℕ
back_of v after = 93 ∷ flat_map element_text after ++ msg_text v.msg

pub around : (v : MessageValue) (before : List ElementValue) (id : List ℕ) (ps : List ParameterValue) (after : List ElementValue) → v.elements ≡ before ++ record { id = id; parameters = ps } ∷ after
    → text v ≡ front_of v before id ps ++ back_of v after
around v before id ps after is =
    text_parts v
    ∙ ap (λ (es : List ElementValue). header_text v ++ (structured_text es ++ msg_text v.msg)) is
    ∙ ap (λ (x : List ℕ). header_text v ++ (x ++ msg_text v.msg)) (structured_is before (record { id = id; parameters = ps }) after)
    ∙ regrouped (header_text v) (flat_map element_text before) id (flat_map parameter_text ps) (flat_map element_text after) (msg_text v.msg)

-- ---- SIGN

abbrev pub sign_of : List ℕ → ParameterValue
sign_of raw = record { name = codes "SIGN"; raw = raw }

-- the eight parameters and SIGN
pub nine_text : (ps : List ParameterValue) (p : ParameterValue) → flat_map parameter_text (ps ++ p ∷ []) ≡ flat_map parameter_text ps ++ parameter_text p
nine_text ps p = flat_map-append parameter_text ps (p ∷ []) ∙ ap (λ (x : List ℕ). flat_map parameter_text ps ++ x) (append-nil (parameter_text p))

-- the text of a block is a front, SIGN and a back, and front and back are what is signed
pub record Rounds (v : MessageValue) (id : List ℕ) (b : BlockElement v.elements id) : Type 0 where
  pub whole : text v ≡ front_of v b.before id b.parameters ++ (parameter_text (sign_of b.raw) ++ back_of v b.after)
  pub left : text (unsigned_value v) ≡ front_of v b.before id b.parameters ++ back_of v b.after

pub rounds : (v : MessageValue) (id : List ℕ) (b : BlockElement v.elements id) → Rounds v id b
rounds v id b = record {
  whole =
      around v b.before id (b.parameters ++ sign_of b.raw ∷ []) b.after b.is
      ∙ ap (λ (x : List ℕ). (header_text v ++ flat_map element_text b.before ++ 91 ∷ id ++ x) ++ back_of v b.after) (nine_text b.parameters (sign_of b.raw))
      ∙ regroup (header_text v ++ flat_map element_text b.before ++ 91 ∷ id) (flat_map parameter_text b.parameters) (parameter_text (sign_of b.raw)) (back_of v b.after);
  left = around (unsigned_value v) b.before id b.parameters b.after b.unsigned;
}
  where
    regroup : (x y z w : List ℕ) → x ++ (y ++ z) ++ w ≡ x ++ y ++ (z ++ w)
    regroup x y z w = simp append_assoc

spelled_out : (front raw back : List ℕ) → front ++ (parameter_text (sign_of raw) ++ back) ≡ front ++ codes " SIGN=\"" ++ raw ++ codes "\"" ++ back
spelled_out front raw back = simp append_assoc

-- ---- its place

nine_found : (t id : List ℕ) (es : List Element) (n m : ℕ) (x : Element) (p : Parameter) → element_from 0 t id es ≡ Some (0 + n) → slice_get es n ≡ Some x → m ≡ 8 → slice_get x.parameters m ≡ Some p → sign_parameter t id es ≡ Some p
nine_found t id es n m x p found there eight ninth =
    let k : 0 + n ≡ n = omega arith in
    let nine : slice_get x.parameters 8 ≡ Some p = rw eight at ninth in
    rw (found, k, there, nine) refl

-- the SD-ID of a block is one of the two
block_named : (r : Reading) (id : List ℕ) → block_id r ≡ Some id → is_block_id id ≡ true
block_named Plain id h = absurd cc
block_named (Unparsed part pos) id h = absurd cc
block_named (Spoilt cause) id h = absurd cc
block_named (Signature b) id h = let same : codes "ssign" ≡ id = cc in ap is_block_id (sym same)
block_named (Certificate b) id h = let same : codes "ssign-cert" ≡ id = cc in ap is_block_id (sym same)

-- the parameter that is cut, the front and the back
record SignPlaced (t : List ℕ) (l : Layout) (id : List ℕ) : Type 0 where
  at : Parameter
  found : sign_parameter t id l.elements ≡ Some at
  front : List ℕ
  sign : List ℕ
  back : List ℕ
  start : at.name.start ≡ length front + 1
  behind : at.value.end + 1 ≡ length front + length sign
  whole : t ≡ front ++ (sign ++ back)
  left : text (unsigned_value (value_at t l)) ≡ front ++ back
  split : IsWithoutSign t (front ++ back)

pub elements_some : (t : List ℕ) (es : List Element) (before : List ElementValue) (e : ElementValue) (after : List ElementValue) → element_values t es ≡ before ++ e ∷ after → 0 < length es
elements_some t [] [] e after is = absurd cc
elements_some t [] (b ∷ before) e after is = absurd cc
elements_some t (x ∷ es) before e after is = omega arith

pub same_long : (p q : ParameterValue) → p ≡ q → length (parameter_text p) ≡ length (parameter_text q)
same_long p q same = ap (λ (x : ParameterValue). length (parameter_text x)) same

sign_placed : (t : List ℕ) (l : Layout) (id : List ℕ) → PartsLie t l → IsMessage (value_at t l) → t ≡ text (value_at t l) → block_id (value_reading (value_at t l)) ≡ Some id → SignPlaced t l id
sign_placed t l id places valid spelled is_block =
    let v : MessageValue = value_at t l in
    let b = with_block v id valid.ids is_block in
    let r = rounds v id b in
    let f = follows t l places (elements_some t l.elements b.before _ b.after b.is) in
    let e = element_placed t id 0 (l.msgid.end + 1) l.elements f.end b.before _ b.after f.inside f.lie b.is b.first refl in
    let ps : parameter_values t e.at.parameters ≡ b.parameters ++ sign_of b.raw ∷ [] = ap (λ (x : ElementValue). x.parameters) e.says in
    let p = parameter_placed t e.at.id.end e.at.parameters e.lies.close b.parameters (sign_of b.raw) [] e.lies.parameters ps in
    let front : List ℕ = front_of v b.before id b.parameters in
    let named = ap (λ (x : ElementValue). length x.id) e.says in
    let F : List ℕ = flat_map element_text b.before in
    let P : List ℕ = flat_map parameter_text b.parameters in
    let long : length front ≡ e.at.id.end + length P =
    omega (arith, length-append (header_text v ++ F ++ 91 ∷ id) P, length-append (header_text v ++ F) (91 ∷ id), length-append (header_text v) F, e.lies.id_stands.ends, f.header, named) in
    record {
      at = p.at;
      found = nine_found t id l.elements (length b.before) (length b.parameters) e.at p.at e.found e.there b.eight p.there;
      front = front;
      sign = parameter_text (sign_of b.raw);
      back = back_of v b.after;
      start = omega (arith, p.lies.name, long);
      behind = omega (arith, p.lies.stands.ends, long, same_long (parameter_value t p.at) (sign_of b.raw) p.says);
      whole = spelled ∙ r.whole;
      left = r.left;
      split = record { value = v; valid = valid; spelled = spelled; before = b.before; id = id; parameters = b.parameters; sign = b.raw; after = b.after; block = block_named (value_reading v) id is_block; before_sign = b.eight; elements = b.is; whole = spelled ∙ r.whole ∙ spelled_out front b.raw (back_of v b.after); left = refl };
    }

-- what is left of the text without this parameter, its last `"` and the SP before it
pub record SignCut (t : List ℕ) (l : Layout) (sign : Parameter) : Type 0 where
  pub some_start : 1 ≤ sign.name.start
  pub in_order : sign.name.start - 1 ≤ sign.value.end + 1
  pub within : sign.value.end + 1 ≤ length t
  pub left : take (sign.name.start - 1) t ++ drop (sign.value.end + 1) t ≡ text (unsigned_value (value_at t l))
  pub split : IsWithoutSign t (take (sign.name.start - 1) t ++ drop (sign.value.end + 1) t)

cut_at : (t : List ℕ) (l : Layout) (id : List ℕ) → (s : SignPlaced t l id) → SignCut t l s.at
cut_at t l id s =
    let start : length s.front ≡ s.at.name.start - 1 = omega (arith, s.start) in
    let behind : length (s.front ++ s.sign) ≡ s.at.value.end + 1 = omega (arith, s.behind, length-append s.front s.sign) in
    let grouped : t ≡ (s.front ++ s.sign) ++ s.back = s.whole ∙ sym (append_assoc s.front s.sign s.back) in
    let taken : take (s.at.name.start - 1) t ≡ s.front = ap (take (s.at.name.start - 1)) s.whole ∙ take_at s.front (s.sign ++ s.back) (s.at.name.start - 1) start in
    let dropped : drop (s.at.value.end + 1) t ≡ s.back = ap (drop (s.at.value.end + 1)) grouped ∙ drop_at (s.front ++ s.sign) s.back (s.at.value.end + 1) behind in
    let cut : take (s.at.name.start - 1) t ++ drop (s.at.value.end + 1) t ≡ s.front ++ s.back = rw (taken, dropped) refl in
    record {
      some_start = omega (arith, s.start);
      in_order = omega (arith, s.start, s.behind);
      within = omega (arith, ap (λ (x : List ℕ). length x) grouped, length-append (s.front ++ s.sign) s.back, behind);
      left = cut ∙ sym s.left;
      split = subst (IsWithoutSign t) (sym cut) s.split;
    }

sign_cut : (t : List ℕ) (l : Layout) (id : List ℕ) (sign : Parameter) → SignPlaced t l id → Some sign ≡ sign_parameter t id l.elements → SignCut t l sign
sign_cut t l id sign s found =
    let told : Some s.at ≡ Some sign = sym s.found ∙ sym found in
    let same : s.at ≡ sign = cc in
    subst (SignCut t l) same (cut_at t l id s)

never_none : (t : List ℕ) (l : Layout) (id : List ℕ) → SignPlaced t l id → None ≡ sign_parameter t id l.elements → ⊥
never_none t l id s none =
    let found : sign_parameter t id l.elements ≡ Some s.at = s.found in
    absurd cc

-- ---- in a message as it was read

placed : (m : Message) (id : List ℕ) → IsRead m → block_id (value_reading (value_of m)) ≡ Some id → SignPlaced m.source.now (layout_of m) id
placed m id r is_block = sign_placed m.source.now (layout_of m) id r.places r.valid r.spelled is_block

pub message_cut : (m : Message) (id : List ℕ) (sign : Parameter) → IsRead m → block_id (value_reading (value_of m)) ≡ Some id → Some sign ≡ sign_parameter m.source.now id m.elements → SignCut m.source.now (layout_of m) sign
message_cut m id sign r is_block found = sign_cut m.source.now (layout_of m) id sign (placed m id r is_block) found

pub message_has_sign : (m : Message) (id : List ℕ) → IsRead m → block_id (value_reading (value_of m)) ≡ Some id → None ≡ sign_parameter m.source.now id m.elements → ⊥
message_has_sign m id r is_block none = never_none m.source.now (layout_of m) id (placed m id r is_block) none
