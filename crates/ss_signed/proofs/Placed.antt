-- SIGN at its place makes the text of the completed message.
use Rattle.std.proofs.Common.{◌≡◌, ℕ, ◌+◌, ◌<◌, ◌≤◌, Bool, true, false, cond, List, [], ◌∷◌, ◌++◌, length, take, drop, Option, Some, None, refl, sym, ap, subst, ◌∙◌, append_assoc, arith}
use Rattle.std.specs.Prelude.{codes}
use Rattle.std.specs.List.{flat_map}
use Rattle.std.specs.Str.{bytes_eq}
use Rattle.std.proofs.lemmas.Bool.{or_parts}
use Rattle.std.proofs.lemmas.List.{length-append, take_at, drop_at}
use Rattle.ss_message.specs.declared.message.Element.{Element}
use Rattle.ss_message.specs.declared.message.Message.{Message}
use Rattle.ss_message.specs.Octets.{part_of}
use Rattle.ss_message.specs.Message.{ParameterValue, ElementValue, MessageValue, header_text, element_text, parameter_text, text}
use Rattle.ss_message.specs.Layout.{Layout, layout_of, value_at, value_of, parameter_values, element_value, element_values}
use Rattle.ss_message.specs.Places.{ElementLies, ElementsLie}
use Rattle.ss_message.proofs.ElementLaws.{element_stands}
use Rattle.ss_message.proofs.ParameterLaws.{parameters_stand, stands_within}
use Rattle.ss_block.specs.declared.reading.Reading.TheVariants.{Plain}
use Rattle.ss_block.specs.Parsed.{IsRead}
use Rattle.ss_block.specs.Reading.{element_with, reading_with, value_reading}
use Rattle.ss_block.specs.Signed.{is_block_id}
use Rattle.ss_block.proofs.Layouts.{follows}
use Rattle.ss_block.proofs.SignPlaces.{around, front_of, back_of, nine_text}
use Rattle.ss_signed.specs.Completed.{some_sign, completed_element, completed_elements, completed_value}
use Rattle.ss_signed.specs.Places.{first_block, end_of, sign_text, completed_text, IsSignPlace}
use Rattle.ss_signed.proofs.Ends.{end_close}
use Rattle.ss_signed.proofs.Signs.{sign_spelled}

-- ---- the element that gets SIGN, and what stands before it

record Placed (t : List ℕ) (pos : ℕ) (es : List Element) (x : Element) : Type 0 where
  before : List ElementValue
  after : List ElementValue
  next : ℕ
  is : element_values t es ≡ before ++ element_value t x ∷ after
  completed : completed_elements (element_values t es) ≡ before ++ completed_element (element_value t x) ∷ after
  lies : ElementLies t (pos + length (flat_map element_text before)) x next

placed : (t : List ℕ) (pos : ℕ) (es : List Element) (end : ℕ) (x : Element) → pos ≤ length t → ElementsLie t pos es end → first_block t es ≡ Some x → Placed t pos es x
placed t pos [] end x le lie h = absurd cc
placed t pos (y ∷ es) end x le lie h = by_test t pos y es end x le lie (is_block_id (part_of t y.id)) refl h (λ inside k. placed t lie.0 es end x inside lie.2 k)
  where
    by_test : (t : List ℕ) (pos : ℕ) (y : Element) (es : List Element) (end : ℕ) (x : Element) → pos ≤ length t → (lie : ElementsLie t pos (y ∷ es) end) → (b : Bool) → is_block_id (part_of t y.id) ≡ b
        → cond b (Some y) (first_block t es) ≡ Some x → (lie.0 ≤ length t → first_block t es ≡ Some x → Placed t lie.0 es x) → Placed t pos (y ∷ es) x
    by_test t pos y es end x le lie true is h rest =
        let same : y ≡ x = cc in
        let k : pos ≡ pos + 0 = omega arith in
        subst (Placed t pos (y ∷ es)) same (record {
          before = [];
          after = element_values t es;
          next = lie.0;
          is = refl;
          completed = rw is refl;
          lies = subst (λ (q : ℕ). ElementLies t q y lie.0) k lie.1;
        })
    by_test t pos y es end x le lie false is h rest =
        let stands = element_stands t pos y lie.0 lie.1 in
        let inside = stands_within t pos (element_text (element_value t y)) lie.0 stands le in
        let r = rest inside h in
        let p : lie.0 + length (flat_map element_text r.before) ≡ pos + length (flat_map element_text (element_value t y ∷ r.before)) =
        omega (arith, stands.ends, length-append (element_text (element_value t y)) (flat_map element_text r.before)) in
        record {
          before = element_value t y ∷ r.before;
          after = r.after;
          next = r.next;
          is = ap (λ (vs : List ElementValue). element_value t y ∷ vs) r.is;
          completed = rw is (ap (λ (vs : List ElementValue). element_value t y ∷ vs) r.completed);
          lies = subst (λ (q : ℕ). ElementLies t q x r.next) p r.lies;
        }

some_element : (t : List ℕ) (es : List Element) (x : Element) → first_block t es ≡ Some x → 0 < length es
some_element t [] x h = absurd cc
some_element t (y ∷ es) x h = omega arith

-- ---- the text

spelled : (v : MessageValue) (before : List ElementValue) (id : List ℕ) (ps : List ParameterValue) (after : List ElementValue)
    → completed_elements v.elements ≡ before ++ record { id = id; parameters = ps ++ some_sign ∷ [] } ∷ after
    → text (completed_value v) ≡ front_of v before id ps ++ (sign_text ++ back_of v after)
spelled v before id ps after is =
    around (completed_value v) before id (ps ++ some_sign ∷ []) after is
    ∙ ap (λ (x : List ℕ). (header_text v ++ flat_map element_text before ++ 91 ∷ id ++ x) ++ back_of v after) (nine_text ps some_sign)
    ∙ regroup (header_text v ++ flat_map element_text before ++ 91 ∷ id) (flat_map parameter_text ps) (parameter_text some_sign) (back_of v after)
    ∙ ap (λ (x : List ℕ). front_of v before id ps ++ (x ++ back_of v after)) sign_spelled
  where
    regroup : (x y z w : List ℕ) → x ++ (y ++ z) ++ w ≡ x ++ y ++ (z ++ w)
    regroup x y z w = simp append_assoc

put : (t front back : List ℕ) (place : ℕ) → t ≡ front ++ back → length front ≡ place → completed_text t place ≡ front ++ (sign_text ++ back)
put t front back place is long =
    let taken : take place t ≡ front = ap (take place) is ∙ take_at front back place long in
    let dropped : drop place t ≡ back = ap (drop place) is ∙ drop_at front back place long in
    ap (λ (x : List ℕ). x ++ sign_text ++ drop place t) taken ∙ ap (λ (x : List ℕ). front ++ sign_text ++ x) dropped ∙ append_assoc front sign_text back

pub found_place : (m : Message) (x : Element) → IsRead m → first_block m.source.now m.elements ≡ Some x → IsSignPlace m (end_of x)
found_place m x r h =
    let t : List ℕ = m.source.now in
    let l : Layout = layout_of m in
    let v : MessageValue = value_at t l in
    let f = follows t l r.places (some_element t l.elements x h) in
    let p = placed t (l.msgid.end + 1) l.elements f.end x f.inside f.lie h in
    let id : List ℕ = part_of t x.id in
    let ps : List ParameterValue = parameter_values t x.parameters in
    let F : List ℕ = flat_map element_text p.before in
    let P : List ℕ = flat_map parameter_text ps in
    let front : List ℕ = front_of v p.before id ps in
    let back : List ℕ = back_of v p.after in
    let whole : t ≡ front ++ back = r.spelled ∙ around v p.before id ps p.after p.is in
    let ends = parameters_stand t x.id.end x.parameters p.lies.close p.lies.parameters in
    let long : length front ≡ end_of x =
    omega (arith, length-append (header_text v ++ F ++ 91 ∷ id) P, length-append (header_text v ++ F) (91 ∷ id), length-append (header_text v) F, p.lies.id_stands.ends, f.header, ends.ends, end_close t x.id.end x.parameters p.lies.close p.lies.parameters) in
    record {
      within = omega (arith, long, ap (λ (o : List ℕ). length o) whole, length-append front back);
      spelled = put t front back (end_of x) whole long ∙ sym (spelled v p.before id ps p.after p.completed);
    }

-- ---- no such element

lacks : (t : List ℕ) (es : List Element) → first_block t es ≡ None → (element_with (codes "ssign") (completed_elements (element_values t es)) ≡ None) × (element_with (codes "ssign-cert") (completed_elements (element_values t es)) ≡ None)
lacks t [] h = (refl, refl)
lacks t (y ∷ es) h = by_test t y es (is_block_id (part_of t y.id)) refl h (λ k. lacks t es k)
  where
    by_test : (t : List ℕ) (y : Element) (es : List Element) (b : Bool) → is_block_id (part_of t y.id) ≡ b → cond b (Some y) (first_block t es) ≡ None
        → (first_block t es ≡ None → (element_with (codes "ssign") (completed_elements (element_values t es)) ≡ None) × (element_with (codes "ssign-cert") (completed_elements (element_values t es)) ≡ None))
        → (element_with (codes "ssign") (completed_elements (element_values t (y ∷ es))) ≡ None) × (element_with (codes "ssign-cert") (completed_elements (element_values t (y ∷ es))) ≡ None)
    by_test t y es true is h rest = absurd cc
    by_test t y es false is h rest =
        let r = rest h in
        let o = or_parts (bytes_eq (part_of t y.id) (codes "ssign")) (bytes_eq (part_of t y.id) (codes "ssign-cert")) is in
        (rw (is, o.0) r.0, rw (is, o.1) r.1)

pub no_place : (m : Message) → first_block m.source.now m.elements ≡ None → value_reading (completed_value (value_of m)) ≡ Plain
no_place m h =
    let l = lacks m.source.now m.elements h in
    let first : element_with (codes "ssign") (completed_elements (element_values m.source.now m.elements)) ≡ None = l.0 in
    let second : element_with (codes "ssign-cert") (completed_elements (element_values m.source.now m.elements)) ≡ None = l.1 in
    ap (λ (o : Option ElementValue). reading_with o (element_with (codes "ssign-cert") (completed_elements (element_values m.source.now m.elements)))) first ∙ ap (reading_with None) second
