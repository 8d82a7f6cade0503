-- The octets `[ssign` in the text of a message that has the element of a block.
use Rattle.std.proofs.Common.{◌≡◌, ℕ, ◌+◌, Bool, true, false, List, ◌∷◌, ◌++◌, length, take, drop, Option, Some, None, Result, Ok, Err, refl, sym, ap, subst, ◌∙◌, append_assoc, arith}
use Rattle.std.specs.Prelude.{codes, is_some, IsTrue}
use Rattle.std.specs.List.{flat_map}
use Rattle.std.proofs.lemmas.List.{length-append, take-append-drop, take_at, drop_at}
use Rattle.memchr.specs.Find.{OccursAt, FindsNeedle}
use Rattle.memchr.proofs.lemmas.MatchLemmas.{OccursAt-split, OccursAt-from_part}
use Rattle.ss_message.specs.declared.fault.BadPart.{BadPart}
use Rattle.ss_message.specs.Message.{ElementValue, MessageValue, header_text, element_text, parameter_text, text}
use Rattle.ss_message.specs.Layout.{Layout, value_at}
use Rattle.ss_message.specs.Reading.{layout_at}
use Rattle.ss_message.specs.Laws.{FaultsAreOfNoMessage}
use Rattle.ss_block.specs.Reading.{element_with, reading_with, reading_from, reading}
use Rattle.ss_block.specs.Mark.{HoldsMark, has_block_element, BlocksAreMarked}
use Rattle.ss_block.proofs.Blocks.{with_split}
use Rattle.ss_block.proofs.Readings.{reading_is}
use Rattle.ss_block.proofs.SignPlaces.{back_of, around}

-- ---- in the text of a message

opened : (x y i p back : List ℕ) → (x ++ y ++ 91 ∷ i ++ p) ++ back ≡ (x ++ y) ++ ((91 ∷ i) ++ (p ++ back))
opened x y i p back = simp append_assoc

-- the element with an SD-ID begins, after the elements before it, with `[` and the SD-ID
element_stands : (v : MessageValue) (id : List ℕ) (e : ElementValue) → element_with id v.elements ≡ Some e
    → (front : List ℕ) × (back : List ℕ) × (text v ≡ front ++ ((91 ∷ id) ++ back))
element_stands v id e has =
    let s = with_split id v.elements e has in
    let x : List ℕ = header_text v in
    let y : List ℕ = flat_map element_text s.before in
    let p : List ℕ = flat_map parameter_text e.parameters in
    let b : List ℕ = back_of v s.after in (
      x ++ y,
      p ++ b,
      around v s.before e.id e.parameters s.after s.is
          ∙ opened x y e.id p b
          ∙ ap (λ (i : List ℕ). (x ++ y) ++ ((91 ∷ i) ++ (p ++ b))) s.named,
    )

signature_marked : (v : MessageValue) (e : ElementValue) → element_with (codes "ssign") v.elements ≡ Some e → HoldsMark (text v)
signature_marked v e has =
    let s = element_stands v (codes "ssign") e has in
    record { front = s.0; back = s.1; is = s.2 }

certificate_marked : (v : MessageValue) (e : ElementValue) → element_with (codes "ssign-cert") v.elements ≡ Some e → HoldsMark (text v)
certificate_marked v e has =
    let s = element_stands v (codes "ssign-cert") e has in
    record { front = s.0; back = codes "-cert" ++ s.1; is = s.2 }

value_marked : (v : MessageValue) (a b : Option ElementValue) → element_with (codes "ssign") v.elements ≡ a → element_with (codes "ssign-cert") v.elements ≡ b → has_block_element (reading_with a b) ≡ true → HoldsMark (text v)
value_marked v None None x y h = absurd cc
value_marked v (Some e) b x y h = signature_marked v e x
value_marked v None (Some e) x y h = certificate_marked v e y

pub text_marked : FaultsAreOfNoMessage → (t : List ℕ) → has_block_element (reading t) ≡ true → HoldsMark t
text_marked faults t h = by_layout faults t (layout_at t) refl (ap has_block_element (sym (reading_is t (layout_at t) refl)) ∙ h)
  where
    by_layout : FaultsAreOfNoMessage → (t : List ℕ) (r : Result Layout BadPart) → layout_at t ≡ r → has_block_element (reading_from t r) ≡ true → HoldsMark t
    by_layout faults t (Ok l) layout h =
        let v : MessageValue = value_at t l in
        subst HoldsMark (sym (faults.0 t l layout).1)
        (value_marked v (element_with (codes "ssign") v.elements) (element_with (codes "ssign-cert") v.elements) refl refl h)
    by_layout faults t (Err e) layout h = absurd cc

-- ---- where a search finds it

holds_there : (t : List ℕ) (k : ℕ) → OccursAt t (codes "[ssign") k → HoldsMark t
holds_there t k occurs = record {
  front = take k t;
  back = drop (k + length (codes "[ssign")) t;
  is = sym (take-append-drop k t) ∙ ap (λ (x : List ℕ). take k t ++ x) (OccursAt-split t (codes "[ssign") k occurs);
}

stands_there : (t : List ℕ) → (h : HoldsMark t) → OccursAt t (codes "[ssign") (length h.front)
stands_there t h =
    let mark : List ℕ = codes "[ssign" in
    let long = ap (λ (x : List ℕ). length x) h.is ∙ length-append h.front (mark ++ h.back) in
    OccursAt-from_part t mark (length h.front) (omega (arith, long, length-append mark h.back))
    (ap (λ (x : List ℕ). take 6 (drop (length h.front) x)) h.is ∙ ap (take 6) (drop_at h.front (mark ++ h.back) (length h.front) refl) ∙ take_at mark h.back 6 refl)

nowhere : (t : List ℕ) → FindsNeedle t (codes "[ssign") 0 None → HoldsMark t → ⊥
nowhere t none h =
    let there = stands_there t h in
    none (length h.front) (omega arith) (omega (arith, there.fits)) there

-- a search for them finds whether they stand there
pub search_tells : (t : List ℕ) (r : Option ℕ) (some : Bool) → some ≡ is_some r → FindsNeedle t (codes "[ssign") 0 r → (IsTrue some → HoldsMark t) × (HoldsMark t → IsTrue some)
search_tells t None some is finds = (λ told. absurd cc, λ holds. absurd (nowhere t finds holds))
search_tells t (Some k) some is finds = (λ told. holds_there t k finds.1, λ holds. is)

-- a text in which they don't stand has no element of a block
pub lacks_none : BlocksAreMarked → (t : List ℕ) → (HoldsMark t → ⊥) → has_block_element (reading t) ≡ false
lacks_none marked t lacks = by_test (has_block_element (reading t)) (λ has. lacks (marked t has))
  where
    by_test : (b : Bool) → (b ≡ true → ⊥) → b ≡ false
    by_test true never = absurd (never refl)
    by_test false never = refl
