-- Where an element and a parameter of a message lie, by what stands before them.
use Rattle.std.proofs.Common.{◌≡◌, ℕ, ◌+◌, ◌≤◌, Bool, true, false, cond, List, [], ◌∷◌, ◌++◌, length, Some, None, refl, ap, subst, ◌∙◌, arith}
use Rattle.std.specs.Prelude.{◌&&◌, nat_le}
use Rattle.std.specs.List.{flat_map, slice_get}
use Rattle.std.specs.Str.{bytes_eq}
use Rattle.std.proofs.lemmas.Bool.{and_from, le-leb}
use Rattle.std.proofs.lemmas.List.{length-append}
use Rattle.std.proofs.lemmas.Slice.Eq.{bytes_eq-Decides}
use Rattle.ss_message.specs.declared.message.Parameter.{Parameter}
use Rattle.ss_message.specs.declared.message.Element.{Element}
use Rattle.ss_message.specs.Octets.{part_of}
use Rattle.ss_message.specs.Message.{ParameterValue, ElementValue, parameter_text, element_text}
use Rattle.ss_message.specs.Layout.{parameter_value, parameter_values, element_value, element_values}
use Rattle.ss_message.specs.Places.{ParameterLies, ParametersLie, ElementLies, ElementsLie}
use Rattle.ss_message.specs.Elements.{span_holds, element_from}
use Rattle.ss_message.proofs.ElementLaws.{element_stands}
use Rattle.ss_message.proofs.ParameterLaws.{stands_within}
use Rattle.ss_block.specs.Reading.{element_with}

-- the element e after these
pub record ElementPlaced (t id : List ℕ) (n pos : ℕ) (es : List Element) (before : List ElementValue) (e : ElementValue) : Type 0 where
  pub at : Element
  pub next : ℕ
  pub found : element_from n t id es ≡ Some (n + length before)
  pub there : slice_get es (length before) ≡ Some at
  pub says : element_value t at ≡ e
  pub lies : ElementLies t (pos + length (flat_map element_text before)) at next

-- an element lies within the text, and so its SD-ID is found
id_holds : (t id : List ℕ) (pos : ℕ) (x : Element) (next : ℕ) → pos ≤ length t → ElementLies t pos x next → part_of t x.id ≡ id → span_holds t x.id id ≡ true
id_holds t id pos x next le lies is =
    let inside = stands_within t pos (91 ∷ part_of t x.id) x.id.end lies.id_stands le in
    and_from _ _ (and_from _ _ (le-leb x.id.start x.id.end (omega (arith, lies.id, lies.id_stands.ends))) (le-leb x.id.end (length t) inside)) ((bytes_eq-Decides (part_of t x.id) id).1 is)

other_holds : (t id : List ℕ) (x : Element) → bytes_eq (part_of t x.id) id ≡ false → span_holds t x.id id ≡ false
other_holds t id x other = rw other (and_false (nat_le x.id.start x.id.end && nat_le x.id.end (length t)))
  where
    and_false : (a : Bool) → (a && false) ≡ false
    and_false true = refl
    and_false false = refl

none_before : (id : List ℕ) (b : ElementValue) (before : List ElementValue) → element_with id (b ∷ before) ≡ None → (bytes_eq b.id id ≡ false) × (element_with id before ≡ None)
none_before id b before e = by_test (bytes_eq b.id id) refl e
  where
    by_test : (r : Bool) → bytes_eq b.id id ≡ r → cond r (Some b) (element_with id before) ≡ None → (bytes_eq b.id id ≡ false) × (element_with id before ≡ None)
    by_test true is e = absurd cc
    by_test false is e = (is, e)

pub element_placed : (t id : List ℕ) (n pos : ℕ) (es : List Element) (end : ℕ) (before : List ElementValue) (e : ElementValue) (after : List ElementValue)
    → pos ≤ length t → ElementsLie t pos es end → element_values t es ≡ before ++ e ∷ after → element_with id before ≡ None → e.id ≡ id → ElementPlaced t id n pos es before e
element_placed t id n pos [] end [] e after le lie says none is = absurd cc
element_placed t id n pos [] end (b ∷ before) e after le lie says none is = absurd cc
element_placed t id n pos (x ∷ es) end [] e after le lie says none is =
    let here : element_value t x ≡ e = cc in
    let holds = id_holds t id pos x lie.0 le lie.1 (ap (λ (v : ElementValue). v.id) here ∙ is) in
    let k : n + 0 ≡ n = omega arith in
    let p : pos ≡ pos + 0 = omega arith in
    record {
      at = x;
      next = lie.0;
      found = rw (holds, k) refl;
      there = refl;
      says = here;
      lies = subst (λ q. ElementLies t q x lie.0) p lie.1;
    }
element_placed t id n pos (x ∷ es) end (b ∷ before) e after le lie says none is =
    let here : element_value t x ≡ b = cc in
    let rest : element_values t es ≡ before ++ e ∷ after = cc in
    let c = none_before id b before none in
    let other : bytes_eq (part_of t x.id) id ≡ false = ap (λ (v : ElementValue). bytes_eq v.id id) here ∙ c.0 in
    let stands = element_stands t pos x lie.0 lie.1 in
    let inside = stands_within t pos (element_text (element_value t x)) lie.0 stands le in
    let r = element_placed t id (n + 1) lie.0 es end before e after inside lie.2 rest c.1 is in
    let k : n + 1 + length before ≡ n + length (b ∷ before) = omega arith in
    let p : lie.0 + length (flat_map element_text before) ≡ pos + length (flat_map element_text (b ∷ before)) =
    omega (arith, stands.ends, ap (λ (v : ElementValue). length (element_text v)) here, length-append (element_text b) (flat_map element_text before)) in
    record {
      at = r.at;
      next = r.next;
      found = rw (other_holds t id x other) (r.found ∙ ap (λ m. Some m) k);
      there = r.there;
      says = r.says;
      lies = subst (λ q. ElementLies t q r.at r.next) p r.lies;
    }

-- the parameter p after these
pub record ParameterPlaced (t : List ℕ) (pos : ℕ) (ps : List Parameter) (before : List ParameterValue) (p : ParameterValue) : Type 0 where
  pub at : Parameter
  pub there : slice_get ps (length before) ≡ Some at
  pub says : parameter_value t at ≡ p
  pub lies : ParameterLies t (pos + length (flat_map parameter_text before)) at

pub parameter_placed : (t : List ℕ) (pos : ℕ) (ps : List Parameter) (end : ℕ) (before : List ParameterValue) (p : ParameterValue) (after : List ParameterValue)
    → ParametersLie t pos ps end → parameter_values t ps ≡ before ++ p ∷ after → ParameterPlaced t pos ps before p
parameter_placed t pos [] end [] p after lie says = absurd cc
parameter_placed t pos [] end (b ∷ before) p after lie says = absurd cc
parameter_placed t pos (x ∷ ps) end [] p after lie says =
    let k : pos ≡ pos + 0 = omega arith in
    record { at = x; there = refl; says = cc; lies = subst (λ q. ParameterLies t q x) k lie.0 }
parameter_placed t pos (x ∷ ps) end (b ∷ before) p after lie says =
    let here : parameter_value t x ≡ b = cc in
    let rest : parameter_values t ps ≡ before ++ p ∷ after = cc in
    let r = parameter_placed t (x.value.end + 1) ps end before p after lie.1 rest in
    let k : x.value.end + 1 + length (flat_map parameter_text before) ≡ pos + length (flat_map parameter_text (b ∷ before)) =
    omega (arith, lie.0.stands.ends, ap (λ (v : ParameterValue). length (parameter_text v)) here, length-append (parameter_text b) (flat_map parameter_text before)) in
    record { at = r.at; there = r.there; says = r.says; lies = subst (λ q. ParameterLies t q r.at) k r.lies }
