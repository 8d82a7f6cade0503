-- The element that holds a block, among the elements of a message.
use Rattle.std.proofs.Common.{◌≡◌, ℕ, Bool, true, false, cond, not, List, [], ◌∷◌, ◌++◌, length, map, take, drop, Option, Some, None, refl, sym, ap, subst, ◌∙◌, arith}
use Rattle.std.specs.Prelude.{◌||◌, codes}
use Rattle.std.specs.Str.{bytes_eq}
use Rattle.std.specs.Cmp.Lexicographic.{pointwise}
use Rattle.std.proofs.lemmas.Bool.{and_parts, not-true}
use Rattle.std.proofs.lemmas.List.{take_at, map-append}
use Rattle.std.proofs.lemmas.Slice.Eq.{bytes_eq-Decides}
use Rattle.ss_message.specs.Message.{ParameterValue, ElementValue, MessageValue, is_among, are_new}
use Rattle.ss_block.specs.declared.spoil.Spoil.{Spoil}
use Rattle.ss_block.specs.declared.spoil.Spoil.TheVariants as spoils
use Rattle.ss_block.specs.declared.reading.Reading.TheVariants.{Signature, Certificate}
use Rattle.ss_block.specs.Block as block
use Rattle.ss_block.specs.SignPlace.{block_id}
use Rattle.ss_block.specs.Reading.{has_parameters, signature_names, certificate_names, first_cause, signature_texts, signature_causes, signature_block, certificate_texts, certificate_causes, certificate_block, unless_spoilt, signature_reading, certificate_reading, element_with, reading_with, value_reading}
use Rattle.ss_block.specs.Signed.{unsigned_element}

-- ---- the element with an SD-ID

pub record Split (id : List ℕ) (es : List ElementValue) (e : ElementValue) : Type 0 where
  pub before : List ElementValue
  pub after : List ElementValue
  pub is : es ≡ before ++ e ∷ after
  pub first : element_with id before ≡ None
  pub named : e.id ≡ id

pub with_split : (id : List ℕ) (es : List ElementValue) (e : ElementValue) → element_with id es ≡ Some e → Split id es e
with_split id [] e h = absurd cc
with_split id (x ∷ es) e h = by_test id x es e (bytes_eq x.id id) refl (λ k. with_split id es e k) h
  where
    by_test : (id : List ℕ) (x : ElementValue) (es : List ElementValue) (e : ElementValue) (r : Bool) → bytes_eq x.id id ≡ r → (element_with id es ≡ Some e → Split id es e)
        → cond r (Some x) (element_with id es) ≡ Some e → Split id (x ∷ es) e
    by_test id x es e true is rest h =
        let same : x ≡ e = cc in
        record { before = []; after = es; is = ap (λ (y : ElementValue). y ∷ es) same; first = refl; named = ap (λ (y : ElementValue). y.id) (sym same) ∙ (bytes_eq-Decides x.id id).0 is }
    by_test id x es e false is rest h =
        let s = rest h in
        record { before = x ∷ s.before; after = s.after; is = ap (λ (ys : List ElementValue). x ∷ ys) s.is; first = rw is s.first; named = s.named }

-- none of these has it
none_parts : (id : List ℕ) (before : List ElementValue) (e : ElementValue) (after : List ElementValue) → element_with id (before ++ e ∷ after) ≡ None → (element_with id before ≡ None) × (element_with id after ≡ None)
none_parts id [] e after h = by_test (bytes_eq e.id id) h
  where
    by_test : (r : Bool) → cond r (Some e) (element_with id after) ≡ None → (element_with id [] ≡ None) × (element_with id after ≡ None)
    by_test true h = absurd cc
    by_test false h = (refl, h)
none_parts id (b ∷ before) e after h = by_test id b before e after (bytes_eq b.id id) refl (λ k. none_parts id before e after k) h
  where
    by_test : (id : List ℕ) (b : ElementValue) (before : List ElementValue) (e : ElementValue) (after : List ElementValue) (r : Bool) → bytes_eq b.id id ≡ r
        → (element_with id (before ++ e ∷ after) ≡ None → (element_with id before ≡ None) × (element_with id after ≡ None))
        → cond r (Some b) (element_with id (before ++ e ∷ after)) ≡ None → (element_with id (b ∷ before) ≡ None) × (element_with id after ≡ None)
    by_test id b before e after true is rest h = absurd cc
    by_test id b before e after false is rest h = let p = rest h in (rw is p.0, p.1)

-- an SD-ID that stood before doesn't stand again
among_none : (ids : List (List ℕ)) (id : List ℕ) (es : List ElementValue) → is_among ids id ≡ true → are_new ids es ≡ true → element_with id es ≡ None
among_none ids id [] among new = refl
among_none ids id (x ∷ es) among new = by_test ids id x es (bytes_eq x.id id) refl among new (λ among new. among_none (x.id ∷ ids) id es among new)
  where
    by_test : (ids : List (List ℕ)) (id : List ℕ) (x : ElementValue) (es : List ElementValue) (r : Bool) → bytes_eq x.id id ≡ r → is_among ids id ≡ true → are_new ids (x ∷ es) ≡ true
        → (is_among (x.id ∷ ids) id ≡ true → are_new (x.id ∷ ids) es ≡ true → element_with id es ≡ None) → cond r (Some x) (element_with id es) ≡ None
    by_test ids id x es true is among new rest =
        let fresh : is_among ids x.id ≡ false = not-true _ (and_parts _ _ new).0 in
        let same : x.id ≡ id = (bytes_eq-Decides x.id id).0 is in
        let again : is_among ids x.id ≡ true = ap (is_among ids) same ∙ among in
        absurd cc
    by_test ids id x es false is among new rest = rest (rw is among) (and_parts _ _ new).1

none_after : (ids : List (List ℕ)) (before : List ElementValue) (e : ElementValue) (after : List ElementValue) → are_new ids (before ++ e ∷ after) ≡ true → element_with e.id after ≡ None
none_after ids [] e after new =
    let itself : bytes_eq e.id e.id ≡ true = (bytes_eq-Decides e.id e.id).1 refl in
    let among : is_among (e.id ∷ ids) e.id ≡ true = rw itself refl in
    among_none (e.id ∷ ids) e.id after among (and_parts _ _ new).1
none_after ids (b ∷ before) e after new = none_after (b.id ∷ ids) before e after (and_parts _ _ new).1

-- ---- nine parameters, the last of them named so

record Named (ps : List ParameterValue) (names : List (List ℕ)) (last : List ℕ) : Type 0 where
  front : List ParameterValue
  raw : List ℕ
  is : ps ≡ front ++ record { name = last; raw = raw } ∷ []
  long : length front ≡ length names

last_named : (ps : List ParameterValue) (names : List (List ℕ)) (last : List ℕ) → pointwise bytes_eq (map (λ (p : ParameterValue). p.name) ps) (names ++ last ∷ []) ≡ true → Named ps names last
last_named [] [] last h = absurd cc
last_named [] (n ∷ names) last h = absurd cc
last_named (p ∷ []) [] last h =
    let same : p.name ≡ last = (bytes_eq-Decides p.name last).0 (and_parts (bytes_eq p.name last) true h).0 in
    record { front = []; raw = p.raw; is = ap (λ (n : List ℕ). record { name = n; raw = p.raw } ∷ []) same; long = refl }
last_named (p ∷ q ∷ ps) [] last h = let e : false ≡ true = (and_parts (bytes_eq p.name last) false h).1 in absurd cc
last_named (p ∷ ps) (n ∷ names) last h =
    let r = last_named ps names last (and_parts (bytes_eq p.name n) (pointwise bytes_eq (map (λ (q : ParameterValue). q.name) ps) (names ++ last ∷ [])) h).1 in
    record { front = p ∷ r.front; raw = r.raw; is = ap (λ (qs : List ParameterValue). p ∷ qs) r.is; long = omega (arith, r.long) }

-- ---- elements that hold no block stay as they are

unsigned_same : (es : List ElementValue) → element_with (codes "ssign") es ≡ None → element_with (codes "ssign-cert") es ≡ None → map unsigned_element es ≡ es
unsigned_same [] none others = refl
unsigned_same (x ∷ es) none others = by_tests x es (bytes_eq x.id (codes "ssign")) (bytes_eq x.id (codes "ssign-cert")) (λ a b. unsigned_same es a b) none others
  where
    by_tests : (x : ElementValue) (es : List ElementValue) (r s : Bool) → (element_with (codes "ssign") es ≡ None → element_with (codes "ssign-cert") es ≡ None → map unsigned_element es ≡ es)
        → cond r (Some x) (element_with (codes "ssign") es) ≡ None → cond s (Some x) (element_with (codes "ssign-cert") es) ≡ None
        → (cond (r || s) (record { id = x.id; parameters = take 8 x.parameters }) x ∷ map unsigned_element es) ≡ x ∷ es
    by_tests x es true s rest none others = absurd cc
    by_tests x es false true rest none others = absurd cc
    by_tests x es false false rest none others = ap (λ (ys : List ElementValue). x ∷ ys) (rest none others)

-- ---- the element of a block

-- The element that holds the block stands after these and before those, which stay as they are; it has eight
-- parameters and SIGN.
pub record BlockElement (es : List ElementValue) (id : List ℕ) : Type 0 where
  pub before : List ElementValue
  pub parameters : List ParameterValue
  pub raw : List ℕ
  pub after : List ElementValue
  pub is : es ≡ before ++ record { id = id; parameters = parameters ++ record { name = codes "SIGN"; raw = raw } ∷ [] } ∷ after
  pub first : element_with id before ≡ None
  pub eight : length parameters ≡ 8
  pub unsigned : map unsigned_element es ≡ before ++ record { id = id; parameters = parameters } ∷ after

abbrev with_id : List ℕ → List ParameterValue → ElementValue
with_id id ps = record { id = id; parameters = ps }

block_made : (es : List ElementValue) (id other : List ℕ) (names : List (List ℕ)) (e : ElementValue) → are_new [] es ≡ true → element_with id es ≡ Some e → element_with other es ≡ None
    → has_parameters (names ++ codes "SIGN" ∷ []) e ≡ true → length names ≡ 8
    → ((xs : List ElementValue) → element_with id xs ≡ None → element_with other xs ≡ None → map unsigned_element xs ≡ xs)
    → ((ps : List ParameterValue) → unsigned_element (with_id id ps) ≡ with_id id (take 8 ps))
    → BlockElement es id
block_made es id other names e new has lacks named eight same cut =
    let s = with_split id es e has in
    let n = last_named e.parameters names (codes "SIGN") named in
    let ps : List ParameterValue = n.front ++ record { name = codes "SIGN"; raw = n.raw } ∷ [] in
    let e_is : e ≡ with_id id ps = ap (λ (d : List ℕ). with_id d e.parameters) s.named ∙ ap (with_id id) n.is in
    let is : es ≡ s.before ++ with_id id ps ∷ s.after = s.is ∙ ap (λ (x : ElementValue). s.before ++ x ∷ s.after) e_is in
    let others = none_parts other s.before e s.after (ap (element_with other) (sym s.is) ∙ lacks) in
    let behind : element_with id s.after ≡ None = ap (λ (d : List ℕ). element_with d s.after) (sym s.named) ∙ none_after [] s.before e s.after (ap (are_new []) (sym s.is) ∙ new) in
    let front_len : length n.front ≡ 8 = n.long ∙ eight in
    let front : take 8 ps ≡ n.front = take_at n.front (record { name = codes "SIGN"; raw = n.raw } ∷ []) 8 front_len in
    record {
      before = s.before;
      parameters = n.front;
      raw = n.raw;
      after = s.after;
      is = is;
      first = s.first;
      eight = front_len;
      unsigned =
          ap (map unsigned_element) is
          ∙ map-append unsigned_element s.before (with_id id ps ∷ s.after)
          ∙ ap (λ (xs : List ElementValue). xs ++ unsigned_element (with_id id ps) ∷ map unsigned_element s.after) (same s.before s.first others.0)
          ∙ ap (λ (x : ElementValue). s.before ++ x ∷ map unsigned_element s.after) (cut ps ∙ ap (with_id id) front)
          ∙ ap (λ (xs : List ElementValue). s.before ++ with_id id n.front ∷ xs) (same s.after behind others.1);
    }

signature_named : (e : ElementValue) (id : List ℕ) → block_id (signature_reading e) ≡ Some id → (has_parameters signature_names e ≡ true) × (id ≡ codes "ssign")
unfolding signature_reading
signature_named e id h = by_causes id (has_parameters signature_names e) (first_cause (drop 1 (signature_causes true (signature_texts e)))) (signature_block (signature_texts e)) h
  where
    by_causes : (id : List ℕ) (named : Bool) (others : Option Spoil) (b : block.Signature) → block_id (unless_spoilt (cond (not named) (Some spoils.Names) others) (Signature b)) ≡ Some id → (named ≡ true) × (id ≡ codes "ssign")
    by_causes id true None b h = (refl, cc)
    by_causes id true (Some cause) b h = absurd cc
    by_causes id false others b h = absurd cc

certificate_named : (e : ElementValue) (id : List ℕ) → block_id (certificate_reading e) ≡ Some id → (has_parameters certificate_names e ≡ true) × (id ≡ codes "ssign-cert")
unfolding certificate_reading
certificate_named e id h = by_causes id (has_parameters certificate_names e) (first_cause (drop 1 (certificate_causes true (certificate_texts e)))) (certificate_block (certificate_texts e)) h
  where
    by_causes : (id : List ℕ) (named : Bool) (others : Option Spoil) (b : block.Certificate) → block_id (unless_spoilt (cond (not named) (Some spoils.Names) others) (Certificate b)) ≡ Some id → (named ≡ true) × (id ≡ codes "ssign-cert")
    by_causes id true None b h = (refl, cc)
    by_causes id true (Some cause) b h = absurd cc
    by_causes id false others b h = absurd cc

pub with_block : (v : MessageValue) (id : List ℕ) → are_new [] v.elements ≡ true → block_id (value_reading v) ≡ Some id → BlockElement v.elements id
with_block v id new h = by_elements v.elements id (element_with (codes "ssign") v.elements) (element_with (codes "ssign-cert") v.elements) new refl refl h
  where
    by_elements : (es : List ElementValue) (id : List ℕ) (a b : Option ElementValue) → are_new [] es ≡ true → element_with (codes "ssign") es ≡ a → element_with (codes "ssign-cert") es ≡ b
        → block_id (reading_with a b) ≡ Some id → BlockElement es id
    by_elements es id None None new has lacks h = absurd cc
    by_elements es id (Some e) (Some f) new has lacks h = absurd cc
    by_elements es id (Some e) None new has lacks h =
        let n = signature_named e id h in
        subst (BlockElement es) (sym n.1) (block_made es (codes "ssign") (codes "ssign-cert") (take 8 signature_names) e new has lacks n.0 refl unsigned_same (λ ps. refl))
    by_elements es id None (Some e) new lacks has h =
        let n = certificate_named e id h in
        subst (BlockElement es) (sym n.1) (block_made es (codes "ssign-cert") (codes "ssign") (take 8 certificate_names) e new has lacks n.0 refl (λ xs a b. unsigned_same xs b a) (λ ps. refl))
