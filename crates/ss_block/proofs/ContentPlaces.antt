-- The HB or FRAG of a block in its text, and in what is left without SIGN.
use Rattle.std.proofs.Common.{◌≡◌, ℕ, true, false, Bool, cond, ◌+◌, ◌-◌, ◌≤◌, List, [], ◌∷◌, ◌++◌, length, take, drop, Option, Some, None, Result, Ok, Err, refl, sym, ap, subst, ◌∙◌, arith}
use Rattle.std.specs.Prelude.{codes, IfSome}
use Rattle.std.specs.List.{flat_map, slice_get}
use Rattle.std.specs.Str.{bytes_eq}
use Rattle.std.proofs.lemmas.List.{length-append, append_assoc, take-append-le, drop-append-le, drop_at, length-drop}
use Rattle.std.proofs.lemmas.Slice.Eq.{bytes_eq-Decides}
use Rattle.ss_message.specs.declared.fault.BadPart.{BadPart}
use Rattle.ss_message.specs.declared.span.Span.{Span}
use Rattle.ss_message.specs.declared.message.Parameter.{Parameter}
use Rattle.ss_message.specs.declared.message.Element.{Element}
use Rattle.ss_message.specs.declared.message.Message.{Message}
use Rattle.ss_message.specs.Octets.{part_of}
use Rattle.ss_message.specs.Raw.{meant}
use Rattle.ss_message.specs.Message.{ParameterValue, ElementValue, MessageValue, IsMessage, has_raws, header_text, element_text, parameter_text, text}
use Rattle.ss_message.specs.Layout.{Layout, layout_of, value_of, parameter_value, parameter_values, value_at}
use Rattle.ss_message.specs.Elements.{element_from}
use Rattle.ss_message.specs.Places.{IsWithin, PartsLie}
use Rattle.ss_message.specs.Reading.{layout_at}
use Rattle.base64.specs.GeneralPurpose.{IsBytes}
use Rattle.ss_octets.specs.StrictBase64.{octets_in}
use Rattle.ss_block.specs.declared.block_parameter.BlockParameter.TheVariants as kinds
use Rattle.ss_block.specs.declared.reading.Reading.{Reading}
use Rattle.ss_block.specs.declared.reading.Reading.TheVariants.{Plain, Unparsed, Signature, Certificate, Spoilt}
use Rattle.ss_block.specs.Block as block
use Rattle.ss_block.specs.SignPlace.{block_id, content_parameter}
use Rattle.ss_block.specs.Parameters.{place_of}
use Rattle.ss_block.specs.Parsed.{IsRead, IsFault, IsReadAs}
use Rattle.ss_block.specs.Reading.{first_text, text_at, text_of, or_none, hashes_in, pieces, signature_texts, signature_reading, certificate_reading, element_with, reading_with, value_reading, reading_from, reading}
use Rattle.ss_block.specs.Signed.{unsigned_value, signed_if_block}
use Rattle.ss_block.specs.PlacedReading.{SpellsHashes, SpellsFragment, HasContent, signature_in}
use Rattle.ss_block.specs.Versions.{alg_of}
use Rattle.ss_block.specs.Writing.{hashes_text}
use Rattle.ss_block.proofs.Blocks.{with_block}
use Rattle.ss_block.proofs.Layouts.{follows}
use Rattle.ss_block.proofs.Placing.{element_placed, parameter_placed}
use Rattle.ss_block.proofs.Values.{text_is_utf8, raws_with}
use Rattle.ss_block.proofs.HashSpellings.{text_spelled, spelled_as_is}
use Rattle.ss_block.proofs.SignatureCauses as signatures
use Rattle.ss_block.proofs.CertificateCauses as certificates
use Rattle.ss_block.proofs.SignPlaces.{front_of, back_of, sign_of, rounds, nine_text, elements_some, same_long}
use Rattle.ss_block.proofs.Lengths.{bytes_behind, bytes_before, bytes_meant, length-meant, length-octets_in}

-- ---- what an element says

-- the last of some parameters, and those before it
record Parted (ps : List ParameterValue) : Type 0 where
  front : List ParameterValue
  last : ParameterValue
  is : ps ≡ front ++ last ∷ []
  long : length front + 1 ≡ length ps

parted : (ps : List ParameterValue) → 1 ≤ length ps → Parted ps
parted [] some = absurd (omega arith)
parted (p ∷ []) some = record { front = []; last = p; is = refl; long = omega arith }
parted (p ∷ q ∷ ps) some =
    let r = parted (q ∷ ps) (omega arith) in
    record { front = p ∷ r.front; last = r.last; is = ap (λ (qs : List ParameterValue). p ∷ qs) r.is; long = omega (arith, r.long) }

-- the parameter behind these
at_place : (before : List ParameterValue) (p : ParameterValue) (after : List ParameterValue) (n : ℕ) → length before ≡ n → first_text (drop n (before ++ p ∷ after)) ≡ meant p.raw
at_place before p after n long = ap (λ (ps : List ParameterValue). first_text ps) (drop_at before (p ∷ after) n long)

-- what the value of the eighth parameter stands for, before SIGN
content_said : (ps : List ParameterValue) (sign : ParameterValue) (front : List ParameterValue) (last : ParameterValue) (t : List ℕ) (at : Parameter) → ps ≡ front ++ last ∷ [] → length front ≡ 7 → parameter_value t at ≡ last
    → first_text (drop 7 (ps ++ sign ∷ [])) ≡ meant (part_of t at.value)
content_said ps sign front last t at is seven says =
    ap (λ (qs : List ParameterValue). first_text (drop 7 (qs ++ sign ∷ []))) is
    ∙ ap (λ (qs : List ParameterValue). first_text (drop 7 qs)) (append_assoc front (last ∷ []) (sign ∷ []))
    ∙ at_place front last (sign ∷ []) 7 seven
    ∙ ap (λ (q : ParameterValue). meant q.raw) (sym says)

-- the first element with its SD-ID
first_with : (id : List ℕ) (before : List ElementValue) (e : ElementValue) (after : List ElementValue) → element_with id before ≡ None → e.id ≡ id → element_with id (before ++ e ∷ after) ≡ Some e
first_with id [] e after none is = let same : bytes_eq e.id id ≡ true = (bytes_eq-Decides e.id id).1 is in rw same refl
first_with id (x ∷ before) e after none is = by_test id x before e after (bytes_eq x.id id) refl (λ k. first_with id before e after k is) none
  where
    by_test : (id : List ℕ) (x : ElementValue) (before : List ElementValue) (e : ElementValue) (after : List ElementValue) (t : Bool) → bytes_eq x.id id ≡ t → (element_with id before ≡ None → element_with id (before ++ e ∷ after) ≡ Some e)
        → cond t (Some x) (element_with id before) ≡ None → element_with id (x ∷ before ++ e ∷ after) ≡ Some e
    by_test id x before e after true is rest none = absurd cc
    by_test id x before e after false is rest none = rw is (rest none)

-- ---- its place

eight_found : (t id : List ℕ) (es : List Element) (n m : ℕ) (x : Element) (p : Parameter) → element_from 0 t id es ≡ Some (0 + n) → slice_get es n ≡ Some x → m ≡ 7 → slice_get x.parameters m ≡ Some p → content_parameter t id es ≡ Some p
eight_found t id es n m x p found there seven eighth =
    let k : 0 + n ≡ n = omega arith in
    let eight : slice_get x.parameters 7 ≡ Some p = rw seven at eighth in
    rw (found, k, there, eight) refl

-- The eighth parameter of a block's element ends where the front does, before SIGN and the back; front and back are what
-- is signed.
record ContentPlaced (t : List ℕ) (l : Layout) (id : List ℕ) : Type 0 where
  at : Parameter
  found : content_parameter t id l.elements ≡ Some at
  element : ElementValue
  reads : element_with id (value_at t l).elements ≡ Some element
  content : text_at element 7 ≡ meant (part_of t at.value)
  raw : List ℕ
  sign : text_at element 8 ≡ meant raw
  front : List ℕ
  back : List ℕ
  in_order : at.value.start ≤ at.value.end
  behind : l.msgid.start ≤ at.value.start
  before : at.value.end ≤ length front
  whole : t ≡ front ++ (parameter_text (sign_of raw) ++ back)
  left : text (unsigned_value (value_at t l)) ≡ front ++ back

content_placed : (t : List ℕ) (l : Layout) (id : List ℕ) → PartsLie t l → IsMessage (value_at t l) → t ≡ text (value_at t l) → block_id (value_reading (value_at t l)) ≡ Some id → ContentPlaced t l id
content_placed t l id places valid spelled is_block =
    let v : MessageValue = value_at t l in
    let b = with_block v id valid.ids is_block in
    let r = rounds v id b in
    let f = follows t l places (elements_some t l.elements b.before _ b.after b.is) in
    let said : ElementValue = record { id = id; parameters = b.parameters ++ sign_of b.raw ∷ [] } in
    let e = element_placed t id 0 (l.msgid.end + 1) l.elements f.end b.before said b.after f.inside f.lie b.is b.first refl in
    let eight = b.eight in
    let h = parted b.parameters (omega arith) in
    let seven : length h.front ≡ 7 = omega (arith, h.long) in
    let nine : b.parameters ++ sign_of b.raw ∷ [] ≡ h.front ++ h.last ∷ sign_of b.raw ∷ [] = ap (λ (ps : List ParameterValue). ps ++ sign_of b.raw ∷ []) h.is ∙ append_assoc h.front (h.last ∷ []) (sign_of b.raw ∷ []) in
    let ps : parameter_values t e.at.parameters ≡ h.front ++ h.last ∷ sign_of b.raw ∷ [] = ap (λ (x : ElementValue). x.parameters) e.says ∙ nine in
    let p = parameter_placed t e.at.id.end e.at.parameters e.lies.close h.front h.last (sign_of b.raw ∷ []) e.lies.parameters ps in
    let front : List ℕ = front_of v b.before id b.parameters in
    let named = ap (λ (x : ElementValue). length x.id) e.says in
    let F : List ℕ = flat_map element_text b.before in
    let P : List ℕ = flat_map parameter_text b.parameters in
    let long : length front ≡ e.at.id.end + length P =
    omega (arith, length-append (header_text v ++ F ++ 91 ∷ id) P, length-append (header_text v ++ F) (91 ∷ id), length-append (header_text v) F, e.lies.id_stands.ends, f.header, named) in
    let last : length P ≡ length (flat_map parameter_text h.front) + length (parameter_text h.last) =
    ap (λ (qs : List ParameterValue). length (flat_map parameter_text qs)) h.is ∙ ap (λ (x : List ℕ). length x) (nine_text h.front h.last) ∙ length-append (flat_map parameter_text h.front) (parameter_text h.last) in
    record {
      at = p.at;
      found = eight_found t id l.elements (length b.before) (length h.front) e.at p.at e.found e.there seven p.there;
      element = said;
      reads = ap (element_with id) b.is ∙ first_with id b.before said b.after b.first refl;
      content = content_said b.parameters (sign_of b.raw) h.front h.last t p.at h.is seven p.says;
      raw = b.raw;
      sign = at_place b.parameters (sign_of b.raw) [] 8 b.eight;
      front = front;
      back = back_of v b.after;
      in_order = omega (arith, p.lies.value_stands.ends);
      behind = omega (arith, places.msgid.within.0, e.lies.id_stands.ends, p.lies.name, p.lies.name_stands.ends, p.lies.value);
      before = omega (arith, p.lies.stands.ends, long, last, same_long (parameter_value t p.at) h.last p.says);
      whole = spelled ∙ r.whole;
      left = r.left;
    }

-- ---- it stands in the signed octets as well

range_ahead : (front x : List ℕ) (s : Span) → s.start ≤ s.end → s.end ≤ length front → part_of (front ++ x) s ≡ part_of front s
range_ahead front x s order within =
    ap (take (s.end - s.start)) (drop-append-le s.start front x (omega arith))
    ∙ take-append-le (s.end - s.start) (drop s.start front) x (omega (arith, length-drop s.start front))

pub part_left : (t octets front x y : List ℕ) (s : Span) → s.start ≤ s.end → s.end ≤ length front → t ≡ front ++ x → octets ≡ front ++ y → part_of t s ≡ part_of octets s
part_left t octets front x y s order within whole left =
    ap (λ (z : List ℕ). part_of z s) whole ∙ range_ahead front x s order within ∙ sym (range_ahead front y s order within) ∙ ap (λ (z : List ℕ). part_of z s) (sym left)

pub within_left : (octets front y : List ℕ) (s : Span) → s.start ≤ s.end → s.end ≤ length front → octets ≡ front ++ y → IsWithin octets s
within_left octets front y s order within left = (order, omega (arith, ap (λ (z : List ℕ). length z) left, length-append front y))

-- ---- of a block

signature_of : (s c : Option ElementValue) (b : block.Signature) (e : ElementValue) → reading_with s c ≡ Signature b → s ≡ Some e → signature_reading e ≡ Signature b
signature_of None c b e h is = absurd cc
signature_of (Some x) None b e h is = let same : x ≡ e = cc in ap signature_reading (sym same) ∙ h
signature_of (Some x) (Some y) b e h is = absurd cc

certificate_of : (s c : Option ElementValue) (b : block.Certificate) (e : ElementValue) → reading_with s c ≡ Certificate b → c ≡ Some e → certificate_reading e ≡ Certificate b
certificate_of s None b e h is = absurd cc
certificate_of None (Some x) b e h is = let same : x ≡ e = cc in ap certificate_reading (sym same) ∙ h
certificate_of (Some x) (Some y) b e h is = absurd cc

spells_hashes : (octets : List ℕ) (s : Span) (e : ElementValue) (b : block.Signature) → signature_reading e ≡ Signature b → has_raws e ≡ true → IsWithin octets s → text_of e kinds.Hb ≡ meant (part_of octets s) → SpellsHashes octets s b
spells_hashes octets s e b h raws within content =
    let t = signature_texts e in
    let u = signatures.of_block e b h in
    let all = (signatures.both (signatures.counted t) (signatures.hashed t) u.3).1 in
    let hb : t.hb ≡ hashes_text (hashes_in (alg_of t.ver) (pieces t.hb)) = text_spelled (alg_of t.ver) t.hb (text_is_utf8 e (place_of kinds.Hb) raws) all in
    subst (SpellsHashes octets s) u.6 (record { within = within; spelled = spelled_as_is (part_of octets s) (hashes_in (alg_of t.ver) (pieces t.hb)) (sym content ∙ hb) })

spells_fragment : (octets : List ℕ) (s : Span) (e : ElementValue) (c : block.Certificate) → certificate_reading e ≡ Certificate c → IsWithin octets s → text_of e kinds.Frag ≡ meant (part_of octets s) → SpellsFragment octets s c
spells_fragment octets s e c h within content =
    subst (SpellsFragment octets s) (certificates.of_block e c h).5 (record { within = within; fragment = content })

-- ---- in a message as it was read

placed : (m : Message) (id : List ℕ) → IsRead m → block_id (value_reading (value_of m)) ≡ Some id → ContentPlaced m.source.now (layout_of m) id
placed m id r is_block = content_placed m.source.now (layout_of m) id r.places r.valid r.spelled is_block

pub message_has_content : (m : Message) (id : List ℕ) → IsRead m → block_id (value_reading (value_of m)) ≡ Some id → None ≡ content_parameter m.source.now id m.elements → ⊥
message_has_content m id r is_block none =
    let p = placed m id r is_block in
    let found : content_parameter m.source.now id m.elements ≡ Some p.at = p.found in
    absurd cc

-- where the parameter stands in the signed octets, and what it says there
record ContentLeft (m : Message) (s : Span) (p : ElementValue) : Type 0 where
  within : IsWithin (text (unsigned_value (value_of m))) s
  content : text_at p 7 ≡ meant (part_of (text (unsigned_value (value_of m))) s)

content_left : (m : Message) (id : List ℕ) (p : ContentPlaced m.source.now (layout_of m) id) (at : Parameter) → Some at ≡ content_parameter m.source.now id m.elements → ContentLeft m at.value p.element
content_left m id p at found =
    let told : Some p.at ≡ Some at = sym p.found ∙ sym found in
    let same : p.at ≡ at = cc in
    let left : List ℕ = text (unsigned_value (value_of m)) in
    subst (λ (x : Parameter). ContentLeft m x.value p.element) same (record {
      within = within_left left p.front p.back p.at.value p.in_order p.before p.left;
      content = p.content ∙ ap (λ (x : List ℕ). meant x) (part_left m.source.now left p.front (parameter_text (sign_of p.raw) ++ p.back) p.back p.at.value p.in_order p.before p.whole p.left);
    })

-- it stands behind MSGID
pub message_behind : (m : Message) (id : List ℕ) (at : Parameter) → IsRead m → block_id (value_reading (value_of m)) ≡ Some id → Some at ≡ content_parameter m.source.now id m.elements → m.msgid.start ≤ at.value.start
message_behind m id at r is_block found =
    let p = placed m id r is_block in
    let told : Some p.at ≡ Some at = sym p.found ∙ sym found in
    let same : p.at ≡ at = cc in
    subst (λ (x : Parameter). m.msgid.start ≤ x.value.start) same p.behind

pub message_content : (m : Message) (id : List ℕ) (at : Parameter) → IsRead m → block_id (value_reading (value_of m)) ≡ Some id → Some at ≡ content_parameter m.source.now id m.elements
    → HasContent (signed_if_block (value_reading (value_of m)) (value_of m)) (Some at.value) (value_reading (value_of m))
message_content m id at read is_block found = by_reading m id at read found (placed m id read is_block) (value_reading (value_of m)) refl is_block
  where
    by_reading : (m : Message) (id : List ℕ) (at : Parameter) → IsRead m → Some at ≡ content_parameter m.source.now id m.elements → ContentPlaced m.source.now (layout_of m) id
        → (r : Reading) → value_reading (value_of m) ≡ r → block_id r ≡ Some id → HasContent (signed_if_block r (value_of m)) (Some at.value) r
    by_reading m id at read found p Plain is h = tt
    by_reading m id at read found p (Unparsed part pos) is h = tt
    by_reading m id at read found p (Spoilt cause) is h = tt
    by_reading m id at read found p (Signature b) is h =
        let same : codes "ssign" ≡ id = cc in
        let es : List ElementValue = (value_of m).elements in
        let left = content_left m id p at found in
        let e = signature_of (element_with (codes "ssign") es) (element_with (codes "ssign-cert") es) b p.element is (ap (λ (x : List ℕ). element_with x es) same ∙ p.reads) in
        spells_hashes (text (unsigned_value (value_of m))) at.value p.element b e (raws_with id es p.element read.valid.raws (sym p.reads)) left.within left.content
    by_reading m id at read found p (Certificate c) is h =
        let same : codes "ssign-cert" ≡ id = cc in
        let es : List ElementValue = (value_of m).elements in
        let left = content_left m id p at found in
        let e = certificate_of (element_with (codes "ssign") es) (element_with (codes "ssign-cert") es) c p.element is (ap (λ (x : List ℕ). element_with x es) same ∙ p.reads) in
        spells_fragment (text (unsigned_value (value_of m))) at.value p.element c e left.within left.content

-- of a text that spells no message nothing is said
pub no_content : (t : List ℕ) (r : Reading) → IsReadAs t r None → HasContent None None r
unfolding reading
no_content t r read = subst (HasContent None None) (sym read.reading) (by_layout t (layout_at t) read.parsed)
  where
    by_layout : (t : List ℕ) (r : Result Layout BadPart) → IsFault r → HasContent None None (reading_from t r)
    by_layout t (Ok l) fault = absurd fault
    by_layout t (Err e) fault = tt

-- ---- how many octets are signed

-- without SIGN the text has fewer octets than with it, by more than SIGN spells
small : (t left front back raw signature : List ℕ) → IsBytes t → t ≡ front ++ (parameter_text (sign_of raw) ++ back) → left ≡ front ++ back → signature ≡ or_none (octets_in (meant raw)) → length left + length signature ≤ length t
small t left front back raw signature bytes whole leaves spells =
    let behind : IsBytes (parameter_text (sign_of raw) ++ back) = bytes_behind front (parameter_text (sign_of raw) ++ back) (subst IsBytes whole bytes) in
    let value : IsBytes ((raw ++ 34 ∷ []) ++ back) = bytes_behind (32 ∷ codes "SIGN" ++ 61 ∷ 34 ∷ []) ((raw ++ 34 ∷ []) ++ back) behind in
    let own : IsBytes raw = bytes_before raw (34 ∷ []) (bytes_before (raw ++ 34 ∷ []) back value) in
    let octets : length signature ≤ length raw = omega (arith, ap (λ (x : List ℕ). length x) spells, length-octets_in (meant raw) (bytes_meant raw own), length-meant raw) in
    let sign : length raw ≤ length (parameter_text (sign_of raw)) = omega (arith, length-append raw (34 ∷ [])) in
    omega (arith, ap (λ (x : List ℕ). length x) whole, length-append front (parameter_text (sign_of raw) ++ back), length-append (parameter_text (sign_of raw)) back, ap (λ (x : List ℕ). length x) leaves, length-append front back)

pub signed_small : (m : Message) (r : Reading) → IsBytes m.source.now → IsRead m → r ≡ value_reading (value_of m) → IfSome (signed_if_block r (value_of m)) (λ octets. length octets + length (signature_in r) ≤ length m.source.now)
signed_small m Plain bytes read is = tt
signed_small m (Unparsed part pos) bytes read is = tt
signed_small m (Spoilt cause) bytes read is = tt
signed_small m (Signature b) bytes read is =
    let p = placed m (codes "ssign") read (ap block_id (sym is)) in
    let es : List ElementValue = (value_of m).elements in
    let e = signature_of (element_with (codes "ssign") es) (element_with (codes "ssign-cert") es) b p.element (sym is) p.reads in
    let spells : b.signature ≡ or_none (octets_in (meant p.raw)) = ap (λ (x : block.Signature). x.signature) (sym (signatures.of_block p.element b e).6) ∙ ap (λ (x : List ℕ). or_none (octets_in x)) p.sign in
    small m.source.now (text (unsigned_value (value_of m))) p.front p.back p.raw b.signature bytes p.whole p.left spells
signed_small m (Certificate c) bytes read is =
    let p = placed m (codes "ssign-cert") read (ap block_id (sym is)) in
    let es : List ElementValue = (value_of m).elements in
    let e = certificate_of (element_with (codes "ssign") es) (element_with (codes "ssign-cert") es) c p.element (sym is) p.reads in
    let spells : c.signature ≡ or_none (octets_in (meant p.raw)) = ap (λ (x : block.Certificate). x.signature) (sym (certificates.of_block p.element c e).5) ∙ ap (λ (x : List ℕ). or_none (octets_in x)) p.sign in
    small m.source.now (text (unsigned_value (value_of m))) p.front p.back p.raw c.signature bytes p.whole p.left spells
