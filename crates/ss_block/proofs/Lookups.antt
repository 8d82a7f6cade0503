-- The element with an SD-ID, found by its span, is the one found by what it says.
use Rattle.std.proofs.Common.{◌≡◌, ℕ, suc, ◌+◌, ◌-◌, ◌≤◌, Bool, true, false, cond, List, [], ◌∷◌, get_or, Some, None, refl, sym, ap, ◌∙◌, arith}
use Rattle.std.specs.List.{All, AllByRecursion}
use Rattle.std.specs.Str.{bytes_eq}
use Rattle.std.proofs.lemmas.Bool.{le-leb}
use Rattle.std.proofs.lemmas.List.Elements.{recursion_from_All}
use Rattle.ss_message.specs.declared.span.Span.{Span}
use Rattle.ss_message.specs.declared.message.Element.{Element}
use Rattle.ss_message.specs.Octets.{part_of}
use Rattle.ss_message.specs.Elements.{span_holds, element_from}
use Rattle.ss_message.specs.Layout.{element_value, element_values}
use Rattle.ss_message.specs.Places.{IsWithin, ElementIsWithin}
use Rattle.ss_block.specs.Reading.{element_with}

-- of a span within the source only its octets are asked
holds_is : (source id : List ℕ) (s : Span) → IsWithin source s → span_holds source s id ≡ bytes_eq (part_of source s) id
holds_is source id s h = rw (le-leb _ _ h.0, le-leb _ _ h.1) refl

abbrev Finds : ℕ → List ℕ → List ℕ → List Element → ℕ → Type 0
Finds n source id es i = (n ≤ i) × ((x : Element) → x ≡ get_or es (i - n) x → element_with id (element_values source es) ≡ Some (element_value source x))

found_from : (n : ℕ) (source id : List ℕ) (es : List Element) → AllByRecursion (ElementIsWithin source) es → (i : ℕ) → element_from n source id es ≡ Some i → Finds n source id es i
found_from n source id [] within i e = absurd cc
found_from n source id (y ∷ es) within i e = by_test n source id y es i (span_holds source y.id id) refl (holds_is source id y.id within.0.0) (found_from (n + 1) source id es within.1 i) e
  where
    by_test : (n : ℕ) (source id : List ℕ) (y : Element) (es : List Element) (i : ℕ) (t : Bool) → span_holds source y.id id ≡ t → span_holds source y.id id ≡ bytes_eq (part_of source y.id) id
        → (element_from (n + 1) source id es ≡ Some i → Finds (n + 1) source id es i)
        → cond t (Some n) (element_from (n + 1) source id es) ≡ Some i → Finds n source id (y ∷ es) i
    by_test n source id y es i true is same rest e =
        let at : n ≡ i = cc in
        let k : i - n ≡ 0 = omega arith in
        let t : bytes_eq (part_of source y.id) id ≡ true = sym same ∙ is in
        (omega arith, λ x here. (let first : x ≡ y = here ∙ ap (λ j. get_or (y ∷ es) j x) k in rw t (ap (λ (z : Element). Some (element_value source z)) (sym first))))
    by_test n source id y es i false is same rest e =
        let r = rest e in
        let le = r.0 in
        let k : i - n ≡ suc (i - (n + 1)) = omega arith in
        let t : bytes_eq (part_of source y.id) id ≡ false = sym same ∙ is in
        (omega arith, λ x here. rw t (r.1 x (here ∙ ap (λ j. get_or (y ∷ es) j x) k)))

none_from : (n : ℕ) (source id : List ℕ) (es : List Element) → AllByRecursion (ElementIsWithin source) es → element_from n source id es ≡ None → element_with id (element_values source es) ≡ None
none_from n source id [] within e = refl
none_from n source id (y ∷ es) within e = by_test n source id y es (span_holds source y.id id) refl (holds_is source id y.id within.0.0) (none_from (n + 1) source id es within.1) e
  where
    by_test : (n : ℕ) (source id : List ℕ) (y : Element) (es : List Element) (t : Bool) → span_holds source y.id id ≡ t → span_holds source y.id id ≡ bytes_eq (part_of source y.id) id
        → (element_from (n + 1) source id es ≡ None → element_with id (element_values source es) ≡ None)
        → cond t (Some n) (element_from (n + 1) source id es) ≡ None → element_with id (element_values source (y ∷ es)) ≡ None
    by_test n source id y es true is same rest e = absurd cc
    by_test n source id y es false is same rest e =
        let t : bytes_eq (part_of source y.id) id ≡ false = sym same ∙ is in
        rw t (rest e)

pub found_with : (source id : List ℕ) (es : List Element) → All (ElementIsWithin source) es → (i : ℕ) → Some i ≡ element_from 0 source id es
    → (x : Element) → x ≡ get_or es i x → Some (element_value source x) ≡ element_with id (element_values source es)
found_with source id es within i e x here =
    let k : i - 0 ≡ i = omega arith in
    sym ((found_from 0 source id es (recursion_from_All (ElementIsWithin source) es within) i (sym e)).1 x (here ∙ ap (λ j. get_or es j x) (sym k)))

pub none_with : (source id : List ℕ) (es : List Element) → All (ElementIsWithin source) es → None ≡ element_from 0 source id es → None ≡ element_with id (element_values source es)
none_with source id es within e = sym (none_from 0 source id es (recursion_from_All (ElementIsWithin source) es within) (sym e))
