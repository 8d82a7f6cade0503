-- The signed octets of a block are described as that block.
use Rattle.std.proofs.Common.{◌≡◌, ℕ, Bool, true, false, cond, List, [], ◌∷◌, ◌++◌, map, Option, Some, None, Result, Ok, Err, refl, sym, ap, ◌∙◌}
use Rattle.std.specs.Prelude.{◌||◌, codes}
use Rattle.std.specs.Str.{bytes_eq}
use Rattle.std.proofs.lemmas.Slice.Eq.{bytes_eq-Decides}
use Rattle.ss_message.specs.declared.fault.BadPart.{BadPart}
use Rattle.ss_message.specs.Message.{ParameterValue, ElementValue, MessageValue, IsMessage, text}
use Rattle.ss_message.specs.Layout.{Layout, value_at}
use Rattle.ss_message.specs.Reading.{layout_at}
use Rattle.ss_message.proofs.LayoutLaws.{layout_takes}
use Rattle.ss_block.specs.declared.session.Session.{Session}
use Rattle.ss_block.specs.declared.spoil.Spoil.{Spoil}
use Rattle.ss_block.specs.declared.reading.Reading.{Reading}
use Rattle.ss_block.specs.declared.reading.Reading.TheVariants as readings
use Rattle.ss_block.specs.Block as block
use Rattle.ss_block.specs.SignPlace.{block_id}
use Rattle.ss_block.specs.Reading.{has_parameters, first_cause, signature_names, signature_texts, signature_causes, signature_block, signature_reading, certificate_names, certificate_texts, certificate_causes, certificate_block, certificate_reading, unless_spoilt, element_with, reading_with, value_reading, reading_from, reading}
use Rattle.ss_block.specs.Session.{session, session_at, session_if_block}
use Rattle.ss_block.specs.Signed.{is_block_id, unsigned_element, unsigned_value, signed, signed_from, signed_if_block}
use Rattle.ss_block.specs.Writing.{head_session}
use Rattle.ss_block.proofs.Blocks.{BlockElement, with_block}
use Rattle.ss_signed.specs.declared.signed_block.SignedBlock.{SignedBlock}
use Rattle.ss_signed.specs.Completed.{some_sign, completed_element, completed_elements, completed_value}
use Rattle.ss_signed.specs.Described.{of_signature, of_certificate, head_in, signature_described, certificate_described, described_as, described}
use Rattle.ss_signed.proofs.Signs.{octet_zero}
use Rattle.ss_signed.proofs.Unsigned.{unsigned_valid}
use Rattle.ss_signed.proofs.Again.{signature_with, certificate_with, signature_again, certificate_again}
use Rattle.ss_signed.proofs.Exact.{of_value}

-- ---- the element with an SD-ID, among others

-- none before it either
none_front : (id : List ℕ) (before : List ElementValue) (e : ElementValue) (after : List ElementValue) → element_with id (before ++ e ∷ after) ≡ None → element_with id before ≡ None
none_front id [] e after h = refl
none_front id (x ∷ before) e after h = by_test id x before e after (bytes_eq x.id id) refl h (λ k. none_front id before e after k)
  where
    by_test : (id : List ℕ) (x : ElementValue) (before : List ElementValue) (e : ElementValue) (after : List ElementValue) (b : Bool) → bytes_eq x.id id ≡ b
        → cond b (Some x) (element_with id (before ++ e ∷ after)) ≡ None → (element_with id (before ++ e ∷ after) ≡ None → element_with id before ≡ None) → element_with id (x ∷ before) ≡ None
    by_test id x before e after true is h rest = absurd cc
    by_test id x before e after false is h rest = rw is (rest h)

-- none with another element of the same SD-ID in its place
none_replaced : (id : List ℕ) (before : List ElementValue) (e f : ElementValue) (after : List ElementValue) → f.id ≡ e.id → element_with id (before ++ e ∷ after) ≡ None → element_with id (before ++ f ∷ after) ≡ None
none_replaced id [] e f after same h = by_test (bytes_eq e.id id) refl h
  where
    by_test : (b : Bool) → bytes_eq e.id id ≡ b → cond b (Some e) (element_with id after) ≡ None → element_with id (f ∷ after) ≡ None
    by_test true is h = absurd cc
    by_test false is h = let other : bytes_eq f.id id ≡ false = ap (λ (d : List ℕ). bytes_eq d id) same ∙ is in rw other h
none_replaced id (x ∷ before) e f after same h = by_test id x before e f after (bytes_eq x.id id) refl h (λ k. none_replaced id before e f after same k)
  where
    by_test : (id : List ℕ) (x : ElementValue) (before : List ElementValue) (e f : ElementValue) (after : List ElementValue) (b : Bool) → bytes_eq x.id id ≡ b
        → cond b (Some x) (element_with id (before ++ e ∷ after)) ≡ None → (element_with id (before ++ e ∷ after) ≡ None → element_with id (before ++ f ∷ after) ≡ None) → element_with id (x ∷ (before ++ f ∷ after)) ≡ None
    by_test id x before e f after true is h rest = absurd cc
    by_test id x before e f after false is h rest = rw is (rest h)

-- the first that has it
found_first : (id : List ℕ) (before : List ElementValue) (e : ElementValue) (after : List ElementValue) → element_with id before ≡ None → e.id ≡ id → element_with id (before ++ e ∷ after) ≡ Some e
found_first id [] e after none named = let is : bytes_eq e.id id ≡ true = (bytes_eq-Decides e.id id).1 named in rw is refl
found_first id (x ∷ before) e after none named = by_test id x before e after (bytes_eq x.id id) refl none (λ k. found_first id before e after k named)
  where
    by_test : (id : List ℕ) (x : ElementValue) (before : List ElementValue) (e : ElementValue) (after : List ElementValue) (b : Bool) → bytes_eq x.id id ≡ b
        → cond b (Some x) (element_with id before) ≡ None → (element_with id before ≡ None → element_with id (before ++ e ∷ after) ≡ Some e) → element_with id (x ∷ (before ++ e ∷ after)) ≡ Some e
    by_test id x before e after true is h rest = absurd cc
    by_test id x before e after false is h rest = rw is (rest h)

-- it gets SIGN
completed_at : (before : List ElementValue) (e : ElementValue) (after : List ElementValue) → element_with (codes "ssign") before ≡ None → element_with (codes "ssign-cert") before ≡ None → is_block_id e.id ≡ true
    → completed_elements (before ++ e ∷ after) ≡ before ++ completed_element e ∷ after
completed_at [] e after none others named = rw named refl
completed_at (x ∷ before) e after none others named = by_tests x before e after (bytes_eq x.id (codes "ssign")) (bytes_eq x.id (codes "ssign-cert")) none others (λ a b. completed_at before e after a b named)
  where
    by_tests : (x : ElementValue) (before : List ElementValue) (e : ElementValue) (after : List ElementValue) (r s : Bool) → cond r (Some x) (element_with (codes "ssign") before) ≡ None → cond s (Some x) (element_with (codes "ssign-cert") before) ≡ None
        → (element_with (codes "ssign") before ≡ None → element_with (codes "ssign-cert") before ≡ None → completed_elements (before ++ e ∷ after) ≡ before ++ completed_element e ∷ after)
        → cond (r || s) (completed_element x ∷ (before ++ e ∷ after)) (x ∷ completed_elements (before ++ e ∷ after)) ≡ x ∷ (before ++ completed_element e ∷ after)
    by_tests x before e after true s none others rest = absurd cc
    by_tests x before e after false true none others rest = absurd cc
    by_tests x before e after false false none others rest = ap (λ (es : List ElementValue). x ∷ es) (rest none others)

-- ---- which element was read

no_signature : (e : ElementValue) (b : block.Signature) → certificate_reading e ≡ readings.Signature b → ⊥
unfolding certificate_reading
no_signature e b h = by_cause (first_cause (certificate_causes (has_parameters certificate_names e) (certificate_texts e))) (certificate_block (certificate_texts e)) b h
  where
    by_cause : (cause : Option Spoil) (x : block.Certificate) (b : block.Signature) → unless_spoilt cause (readings.Certificate x) ≡ readings.Signature b → ⊥
    by_cause None x b h = absurd cc
    by_cause (Some cause) x b h = absurd cc

no_certificate : (e : ElementValue) (b : block.Certificate) → signature_reading e ≡ readings.Certificate b → ⊥
unfolding signature_reading
no_certificate e b h = by_cause (first_cause (signature_causes (has_parameters signature_names e) (signature_texts e))) (signature_block (signature_texts e)) b h
  where
    by_cause : (cause : Option Spoil) (x : block.Signature) (b : block.Certificate) → unless_spoilt cause (readings.Signature x) ≡ readings.Certificate b → ⊥
    by_cause None x b h = absurd cc
    by_cause (Some cause) x b h = absurd cc

-- the element that was read, and none of the other kind
record ReadFrom (id other : List ℕ) (es : List ElementValue) (read : ElementValue → Reading) (r : Reading) : Type 0 where
  at : ElementValue
  has : element_with id es ≡ Some at
  lacks : element_with other es ≡ None
  is : read at ≡ r

signature_from : (es : List ElementValue) (b : block.Signature) (s c : Option ElementValue) → element_with (codes "ssign") es ≡ s → element_with (codes "ssign-cert") es ≡ c → reading_with s c ≡ readings.Signature b
    → ReadFrom (codes "ssign") (codes "ssign-cert") es signature_reading (readings.Signature b)
signature_from es b None None has lacks h = absurd cc
signature_from es b (Some e) (Some f) has lacks h = absurd cc
signature_from es b None (Some f) has lacks h = absurd (no_signature f b h)
signature_from es b (Some e) None has lacks h = record { at = e; has = has; lacks = lacks; is = h }

certificate_from : (es : List ElementValue) (b : block.Certificate) (s c : Option ElementValue) → element_with (codes "ssign") es ≡ s → element_with (codes "ssign-cert") es ≡ c → reading_with s c ≡ readings.Certificate b
    → ReadFrom (codes "ssign-cert") (codes "ssign") es certificate_reading (readings.Certificate b)
certificate_from es b None None has lacks h = absurd cc
certificate_from es b (Some e) (Some f) has lacks h = absurd cc
certificate_from es b (Some e) None has lacks h = absurd (no_certificate e b h)
certificate_from es b None (Some f) lacks has h = record { at = f; has = has; lacks = lacks; is = h }

-- ---- the message without SIGN, and with another

abbrev with_id : List ℕ → List ParameterValue → ElementValue
with_id id ps = record { id = id; parameters = ps }

abbrev sign_of : List ℕ → ParameterValue
sign_of raw = record { name = codes "SIGN"; raw = raw }

-- the element with another SIGN is found, and none of the other kind
record Resigned (v : MessageValue) (id other : List ℕ) : Type 0 where
  element : BlockElement v.elements id
  was : element_with id v.elements ≡ Some (with_id id (element.parameters ++ sign_of element.raw ∷ []))
  has : element_with id (completed_value (unsigned_value v)).elements ≡ Some (with_id id (element.parameters ++ some_sign ∷ []))
  lacks : element_with other (completed_value (unsigned_value v)).elements ≡ None

resigned : (v : MessageValue) (id other : List ℕ) → BlockElement v.elements id → is_block_id id ≡ true
    → ((xs : List ElementValue) → element_with id xs ≡ None → element_with other xs ≡ None → (element_with (codes "ssign") xs ≡ None) × (element_with (codes "ssign-cert") xs ≡ None))
    → element_with other v.elements ≡ None → Resigned v id other
resigned v id other b named both lacks =
    let old : ElementValue = with_id id (b.parameters ++ sign_of b.raw ∷ []) in
    let new : ElementValue = with_id id (b.parameters ++ some_sign ∷ []) in
    let without : element_with other (b.before ++ old ∷ b.after) ≡ None = ap (element_with other) (sym b.is) ∙ lacks in
    let none = both b.before b.first (none_front other b.before old b.after without) in
    let is : completed_elements (map unsigned_element v.elements) ≡ b.before ++ new ∷ b.after = ap completed_elements b.unsigned ∙ completed_at b.before (with_id id b.parameters) b.after none.0 none.1 named in
    record {
      element = b;
      was = ap (element_with id) b.is ∙ found_first id b.before old b.after b.first refl;
      has = ap (element_with id) is ∙ found_first id b.before new b.after b.first refl;
      lacks = ap (element_with other) is ∙ none_replaced other b.before old new b.after refl without;
    }

abbrev some : ElementValue → Option ElementValue
some e = Some e

one : (o : Option ElementValue) (e f : ElementValue) → o ≡ Some e → o ≡ Some f → e ≡ f
one o e f p q = let same : some e ≡ some f = sym p ∙ q in cc

signature_read : (v : MessageValue) (b : block.Signature) → IsMessage v → value_reading v ≡ readings.Signature b → value_reading (completed_value (unsigned_value v)) ≡ readings.Signature (signature_with octet_zero b)
signature_read v b valid h =
    let from = signature_from v.elements b (element_with (codes "ssign") v.elements) (element_with (codes "ssign-cert") v.elements) refl refl h in
    let r = resigned v (codes "ssign") (codes "ssign-cert") (with_block v (codes "ssign") valid.ids (ap block_id h)) refl (λ xs a b. (a, b)) from.lacks in
    let e = r.element in
    let same = one (element_with (codes "ssign") v.elements) from.at (with_id (codes "ssign") (e.parameters ++ sign_of e.raw ∷ [])) from.has r.was in
    let read : signature_reading (with_id (codes "ssign") (e.parameters ++ sign_of e.raw ∷ [])) ≡ readings.Signature b = ap signature_reading (sym same) ∙ from.is in
    ap (λ (o : Option ElementValue). reading_with o (element_with (codes "ssign-cert") (completed_value (unsigned_value v)).elements)) r.has
    ∙ ap (reading_with (Some (with_id (codes "ssign") (e.parameters ++ some_sign ∷ [])))) r.lacks
    ∙ signature_again (codes "ssign") e.parameters e.raw b e.eight read

certificate_read : (v : MessageValue) (b : block.Certificate) → IsMessage v → value_reading v ≡ readings.Certificate b → value_reading (completed_value (unsigned_value v)) ≡ readings.Certificate (certificate_with octet_zero b)
certificate_read v b valid h =
    let from = certificate_from v.elements b (element_with (codes "ssign") v.elements) (element_with (codes "ssign-cert") v.elements) refl refl h in
    let r = resigned v (codes "ssign-cert") (codes "ssign") (with_block v (codes "ssign-cert") valid.ids (ap block_id h)) refl (λ xs a b. (b, a)) from.lacks in
    let e = r.element in
    let same = one (element_with (codes "ssign-cert") v.elements) from.at (with_id (codes "ssign-cert") (e.parameters ++ sign_of e.raw ∷ [])) from.has r.was in
    let read : certificate_reading (with_id (codes "ssign-cert") (e.parameters ++ sign_of e.raw ∷ [])) ≡ readings.Certificate b = ap certificate_reading (sym same) ∙ from.is in
    ap (reading_with (element_with (codes "ssign") (completed_value (unsigned_value v)).elements)) r.has
    ∙ ap (λ (o : Option ElementValue). reading_with o (Some (with_id (codes "ssign-cert") (e.parameters ++ some_sign ∷ [])))) r.lacks
    ∙ certificate_again (codes "ssign-cert") e.parameters e.raw b e.eight read

-- ---- the law

abbrev some_octets : List ℕ → Option (List ℕ)
some_octets x = Some x

abbrev some_session : Session → Option Session
some_session s = Some s

same_octets : (x y : List ℕ) → some_octets x ≡ some_octets y → x ≡ y
same_octets x y h = cc

same_session : (x y : Session) → some_session x ≡ some_session y → x ≡ y
same_session x y h = cc

pub signature_described_again : (t octets : List ℕ) (b : block.Signature) (s : Session) → reading t ≡ readings.Signature b → signed t ≡ Some octets → session t ≡ Some s
    → ((exact : Bool) × (described octets ≡ Some (of_signature s b exact)))
unfolding reading signed session
signature_described_again t octets b s read is sent = by_layout t octets b s (layout_at t) refl read is sent
  where
    by_layout : (t octets : List ℕ) (b : block.Signature) (s : Session) (r : Result Layout BadPart) → layout_at t ≡ r → reading_from t r ≡ readings.Signature b → signed_from t r ≡ Some octets → session_at t r ≡ Some s
        → ((exact : Bool) × (described octets ≡ Some (of_signature s b exact)))
    by_layout t octets b s (Err e) layout read is sent = absurd cc
    by_layout t octets b s (Ok l) layout read is sent =
        let v : MessageValue = value_at t l in
        let valid : IsMessage v = (layout_takes t l layout).valid in
        let u : MessageValue = unsigned_value v in
        let spelled : text u ≡ octets = same_octets (text u) octets (sym (ap (λ (r : Reading). signed_if_block r v) read) ∙ is) in
        let from : head_session (head_in v) b.rsid ≡ s = same_session (head_session (head_in v) b.rsid) s (sym (ap (λ (r : Reading). session_if_block r v) read) ∙ sent) in
        let d : SignedBlock = signature_described octets (head_in v) v.stamp (signature_with octet_zero b) in
        (d.exact, of_value octets u (unsigned_valid v valid) (sym spelled) ∙ ap (described_as octets (head_in v) v.stamp) (signature_read v b valid read) ∙ ap (λ (x : Session). Some (of_signature x b d.exact)) from)

pub certificate_described_again : (t octets : List ℕ) (b : block.Certificate) (s : Session) → reading t ≡ readings.Certificate b → signed t ≡ Some octets → session t ≡ Some s
    → ((exact : Bool) × (described octets ≡ Some (of_certificate s b exact)))
unfolding reading signed session
certificate_described_again t octets b s read is sent = by_layout t octets b s (layout_at t) refl read is sent
  where
    by_layout : (t octets : List ℕ) (b : block.Certificate) (s : Session) (r : Result Layout BadPart) → layout_at t ≡ r → reading_from t r ≡ readings.Certificate b → signed_from t r ≡ Some octets → session_at t r ≡ Some s
        → ((exact : Bool) × (described octets ≡ Some (of_certificate s b exact)))
    by_layout t octets b s (Err e) layout read is sent = absurd cc
    by_layout t octets b s (Ok l) layout read is sent =
        let v : MessageValue = value_at t l in
        let valid : IsMessage v = (layout_takes t l layout).valid in
        let u : MessageValue = unsigned_value v in
        let spelled : text u ≡ octets = same_octets (text u) octets (sym (ap (λ (r : Reading). signed_if_block r v) read) ∙ is) in
        let from : head_session (head_in v) b.rsid ≡ s = same_session (head_session (head_in v) b.rsid) s (sym (ap (λ (r : Reading). session_if_block r v) read) ∙ sent) in
        let d : SignedBlock = certificate_described octets (head_in v) v.stamp (certificate_with octet_zero b) in
        (d.exact, of_value octets u (unsigned_valid v valid) (sym spelled) ∙ ap (described_as octets (head_in v) v.stamp) (certificate_read v b valid read) ∙ ap (λ (x : Session). Some (of_certificate x b d.exact)) from)
