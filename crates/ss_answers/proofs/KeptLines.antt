-- Lines by the places of their fields: what a place gives, and that octets put after them change no line.
use Rattle.std.proofs.Common.{◌≡◌, ℕ, ◌+◌, ◌-◌, ◌<◌, ◌≤◌, true, false, eqb, codes, cond, Option, List, [], ◌∷◌, ◌++◌, length, take, drop, Some, None, nat_le, Result, Ok, Err, subst, sym, refl, ap, ◌∙◌, arith, length-append, length-drop, inl, inr}
use Rattle.std.specs.BTreeMap.{insert_entry, is_at}
use Rattle.std.specs.Cmp.Lexicographic.{slice_cmp}
use Rattle.std.specs.List.{AllByRecursion, slice_range}
use Rattle.std.specs.Map.{lookup}
use Rattle.std.specs.Option.{IfSome}
use Rattle.std.specs.Result.{IfOk, OnOk}
use Rattle.std.specs.Ordering.{is_eq, match_ordering, nat_cmp}
use Rattle.std.specs.declared.alloc.Global.{Global}
use Rattle.std.specs.declared.cmp.Ordering.{Ordering}
use Rattle.std.specs.declared.cmp.Ordering.TheVariants.{Less, Equal, Greater}
use Rattle.std.specs.declared.vec.Vec.{Vec}
use Rattle.std.proofs.lemmas.Map.Lookups.{exact_bytes}
use Rattle.std.proofs.lemmas.List.{append-nil, append_assoc, take-append-le, drop-append-le}
use Rattle.std.proofs.lemmas.Bool.Decides.{nat_tests}
use Rattle.std.proofs.Math.Seq.{drop-append_seam, take-append_seam}
use Rattle.std.proofs.lemmas.Bool.{cases_lt}
use Rattle.ss_answers.specs.declared.place.Place.{Place}
use Rattle.ss_answers.specs.declared.field.LineFault.{LineFault}
use Rattle.ss_answers.specs.declared.field.Span.{Span}
use Rattle.ss_answers.specs.declared.line.Known.{Known}
use Rattle.ss_octets.specs.Ascii.{sp}
use Rattle.ss_octets.specs.StrictBase64.{base64}
use Rattle.ss_answers.specs.Answers.{Trust, Yes, Seal, given_signature}
use Rattle.ss_answers.specs.Lines.{Lacks}
use Rattle.ss_answers.specs.AnswerKey.{key_of, seal_key, trust_key, yes_key}
use Rattle.ss_answers.specs.AnswerLine.{AreKnown, Grows, HasField, IsKnown, IsWithin, KeepsField, KeepsLine, KeepsPair, KeepsPayload, KeepsTriple, answer_at, answer_by_fields, answers_at, no_span, part, place_of}
use Rattle.ss_answers.proofs.Base64Text.{Lacks-space}

-- the key of a line by its fields
pub key_of-seal : (payload octets signature : List ℕ) → eqb (length payload) 0 ≡ true → key_of (answer_by_fields payload octets signature) ≡ seal_key octets
key_of-seal [] octets signature h = refl
key_of-seal (x ∷ payload) octets signature h = absurd (grind (arith, nat_tests))

pub key_of-trust : (payload octets signature : List ℕ) → eqb (length payload) 0 ≡ false → eqb (length octets) 0 ≡ true
    → key_of (answer_by_fields payload octets signature) ≡ trust_key payload
key_of-trust [] octets signature h k = absurd (grind (arith, nat_tests))
key_of-trust (x ∷ payload) [] signature h k = refl
key_of-trust (x ∷ payload) (y ∷ octets) signature h k = absurd (grind (arith, nat_tests))

pub key_of-yes : (payload octets signature : List ℕ) → eqb (length payload) 0 ≡ false → eqb (length octets) 0 ≡ false
    → key_of (answer_by_fields payload octets signature) ≡ yes_key payload octets signature
key_of-yes [] octets signature h k = absurd (grind (arith, nat_tests))
key_of-yes (x ∷ payload) [] signature h k = absurd (grind (arith, nat_tests))
key_of-yes (x ∷ payload) (y ∷ octets) signature h k = refl

pub given-seal : (payload octets signature : List ℕ) → eqb (length payload) 0 ≡ true
    → given_signature (answer_by_fields payload octets signature) ≡ Some signature
given-seal [] octets signature h = refl
given-seal (x ∷ payload) octets signature h = absurd (grind (arith, nat_tests))

pub given-other : (payload octets signature : List ℕ) → eqb (length payload) 0 ≡ false
    → given_signature (answer_by_fields payload octets signature) ≡ None
given-other [] octets signature h = absurd (grind (arith, nat_tests))
given-other (x ∷ payload) [] signature h = refl
given-other (x ∷ payload) (y ∷ octets) signature h = refl

range-append : (a b : List ℕ) (from to : ℕ) → from ≤ to → to ≤ length a → slice_range (a ++ b) from to ≡ slice_range a from to
range-append a b from to le fits =
    ap (take (to - from)) (drop-append-le from a b (omega arith)) ∙ take-append-le (to - from) (drop from a) b (omega (arith, length-drop from a))

part-append : (a b : List ℕ) (from to : ℕ) → to ≤ length a → part (a ++ b) from to ≡ part a from to
unfolding part
part-append a b from to fits = elim (cases_lt to from) [
  | inl back ↦ let t : nat_le from to ≡ false = grind (arith, nat_tests) in rw t refl
  | inr forth ↦
      let t : nat_le from to ≡ true = grind (arith, nat_tests) in
      let u : nat_le to (length a) ≡ true = grind (arith, nat_tests) in
      let long = length-append a b in
      let v : nat_le to (length (a ++ b)) ≡ true = grind (arith, nat_tests) in
      rw (t, u, v) (range-append a b from to forth fits)
]

part-middle : (a p b : List ℕ) (from to : ℕ) → from ≡ length a → to ≡ length a + length p → part (a ++ (p ++ b)) from to ≡ p
unfolding part
part-middle a p b from to starts ends =
    let t : nat_le from to ≡ true = grind (arith, nat_tests) in
    let long = length-append a (p ++ b) in
    let longer = length-append p b in
    let v : nat_le to (length (a ++ (p ++ b))) ≡ true = grind (arith, nat_tests) in
    let size : to - from ≡ length p = omega arith in
    rw (t, v, size, starts, drop-append_seam) (take-append_seam p b)

-- the octets after the others, and the octets from the beginning to itself
pub part-last : (old new field : List ℕ) (from to : ℕ) → new ≡ old ++ field → from ≡ length old → to ≡ length new → part new from to ≡ field
part-last old new field from to appended starts ends =
    let long = length-append old field in
    let whole = ap length appended in
    ap (λ t. part t from to) (appended ∙ ap (λ t. old ++ t) (sym (append-nil field)))
    ∙ part-middle old field [] from to starts (omega (arith, whole, long))

part-none : (octets : List ℕ) → part octets 0 0 ≡ []
unfolding part
part-none octets = let t : nat_le 0 (length octets) ≡ true = grind (arith, nat_tests) in rw t refl

-- octets put after don't change a line whose fields end before
answer_at-append : (a b : List ℕ) (place : Place) → IsWithin (length a) place → answer_at (a ++ b) place ≡ answer_at a place
unfolding answer_at
answer_at-append a b place within =
    rw (
      part-append a b place.payload.start place.payload.end within.0,
      part-append a b place.start place.middle within.1,
      part-append a b place.middle place.end within.2,
    ) refl

answers_at-append : (a b : List ℕ) (places : List Place) → AllByRecursion (IsWithin (length a)) places → answers_at (a ++ b) places ≡ answers_at a places
answers_at-append a b [] within = refl
answers_at-append a b (x ∷ places) within = rw (answer_at-append a b x within.0, answers_at-append a b places within.1) refl

-- ---- more octets come after the others

pub Grows-none : (octets : List ℕ) (most : ℕ) → Grows octets octets most
Grows-none octets most = record { more = []; appended = sym (append-nil octets); size = omega arith }

pub Grows-more : (old new : List ℕ) (m n : ℕ) → Grows old new m → m ≤ n → Grows old new n
Grows-more old new m n grows le = record { more = grows.more; appended = grows.appended; size = omega (arith, grows.size) }

pub Grows-twice : (a b c : List ℕ) (m n k : ℕ) → Grows a b m → Grows b c n → m + n ≤ k → Grows a c k
Grows-twice a b c m n k one two le = record {
  more = one.more ++ two.more;
  appended = two.appended ∙ ap (λ t. t ++ two.more) one.appended ∙ append_assoc a one.more two.more;
  size = omega (arith, length-append one.more two.more, one.size, two.size);
}

pub length-Grows : (old new : List ℕ) (most : ℕ) → Grows old new most → length old ≤ length new
length-Grows old new most grows = omega (arith, ap length grows.appended, length-append old grows.more)

pub length-Grows-most : (old new : List ℕ) (most : ℕ) → Grows old new most → length new ≤ length old + most
length-Grows-most old new most grows = omega (arith, ap length grows.appended, length-append old grows.more, grows.size)

-- a field stays where it stands
pub HasField-grows : (old new text : List ℕ) (span : Span) (most : ℕ) → Grows old new most → HasField old text span → HasField new text span
HasField-grows old new text span most grows has = record {
  field = has.field;
  is_field = has.is_field;
  spelt = has.spelt;
  here = ap (λ t. part t span.start span.end) grows.appended ∙ part-append old grows.more span.start span.end has.within ∙ has.here;
  within = omega (arith, has.within, length-Grows old new most grows);
}

pub AreKnown-grows : (old new : List ℕ) (payloads : List (Vec ℕ Global × Span)) (most : ℕ) → Grows old new most → AreKnown old payloads → AreKnown new payloads
AreKnown-grows old new [] most grows h = tt
AreKnown-grows old new (entry ∷ payloads) most grows h =
    (HasField-grows old new entry.0.items entry.1 most grows h.0, AreKnown-grows old new payloads most grows h.1)

-- what a look-up finds for a text
found_here : (octets text : List ℕ) (entry : Vec ℕ Global × Span) (rest : Option Span) (order : Ordering) → (order ≡ Equal → text ≡ entry.0.items)
    → HasField octets entry.0.items entry.1 → IfSome rest (λ span. HasField octets text span)
    → IfSome (cond (is_eq order) (Some entry.1) rest) (λ span. HasField octets text span)
found_here octets text entry rest Less same has others = others
found_here octets text entry rest Equal same has others = rw (same refl) has
found_here octets text entry rest Greater same has others = others

pub HasField-found : (octets text : List ℕ) (payloads : List (Vec ℕ Global × Span)) → AreKnown octets payloads
    → IfSome (lookup (is_at (λ (name : Vec ℕ Global). slice_cmp nat_cmp text name.items)) payloads) (λ span. HasField octets text span)
HasField-found octets text [] h = tt
HasField-found octets text (entry ∷ payloads) h =
    found_here octets text entry _ (slice_cmp nat_cmp text entry.0.items) (exact_bytes text entry.0.items) h.0 (HasField-found octets text payloads h.1)

pub found_at : (octets text : List ℕ) (payloads : List (Vec ℕ Global × Span)) (span : Span) → AreKnown octets payloads
    → Some span ≡ lookup (is_at (λ (name : Vec ℕ Global). slice_cmp nat_cmp text name.items)) payloads → HasField octets text span
found_at octets text payloads span h found =
    subst (λ (r : Option Span). IfSome r (λ s. HasField octets text s)) (sym found) (HasField-found octets text payloads h)

pub KeepsPayload-known_by : (old new text : List ℕ) (span : Span) (r : Result Known LineFault) → HasField new text span → Grows old new (length text)
    → IfOk r (λ known. (known.text.items ≡ text) × (known.span ≡ span)) → IfOk r (λ known. KeepsPayload old new text known)
KeepsPayload-known_by old new text span (Ok known) has grows h = record { has = rw (h.0, h.1) has; same = h.0; grows = grows }
KeepsPayload-known_by old new text span (Err fault) has grows h = tt

pub AreKnown-known_by : (octets : List ℕ) (payloads : List (Vec ℕ Global × Span)) (r : Result Known LineFault) → AreKnown octets payloads
    → OnOk r (AreKnown octets payloads)
AreKnown-known_by octets payloads (Ok known) h = h
AreKnown-known_by octets payloads (Err fault) h = tt

-- one payload more
more_here : (octets : List ℕ) (name : Vec ℕ Global) (span : Span) (entry : Vec ℕ Global × Span) (payloads more : List (Vec ℕ Global × Span)) (order : Ordering)
    → (order ≡ Equal → name.items ≡ entry.0.items) → HasField octets name.items span → HasField octets entry.0.items entry.1 → AreKnown octets payloads
    → AreKnown octets more → AreKnown octets (match_ordering order ((name, span) ∷ entry ∷ payloads) ((entry.0, span) ∷ payloads) (entry ∷ more))
more_here octets name span entry payloads more Less same has first others inserted = (has, (first, others))
more_here octets name span entry payloads more Equal same has first others inserted = (rw (← same refl) has, others)
more_here octets name span entry payloads more Greater same has first others inserted = (first, inserted)

pub AreKnown-insert : (octets : List ℕ) (name : Vec ℕ Global) (span : Span) (payloads : List (Vec ℕ Global × Span)) → AreKnown octets payloads
    → HasField octets name.items span → AreKnown octets (insert_entry (λ (x y : Vec ℕ Global). slice_cmp nat_cmp x.items y.items) payloads name span)
AreKnown-insert octets name span [] h has = (has, tt)
AreKnown-insert octets name span (entry ∷ payloads) h has =
    more_here octets name span entry payloads _ (slice_cmp nat_cmp name.items entry.0.items) (exact_bytes name.items entry.0.items) has h.0 h.1
    (AreKnown-insert octets name span payloads h.1 has)

pub IsKnown-grows : (old new : List ℕ) (known : Option Known) (most : ℕ) → Grows old new most → IsKnown old known → IsKnown new known
IsKnown-grows old new None most grows h = tt
IsKnown-grows old new (Some known) most grows h = HasField-grows old new known.text.items known.span most grows h

pub KeepsPair-fields : (old middle new text left right : List ℕ) (first second : Span) → text ≡ left ++ sp ∷ right → KeepsField old middle left first
    → KeepsField middle new right second → KeepsPair old new text first second
KeepsPair-fields old middle new text left right first second spelt one two = record {
  left = left;
  right = right;
  spelt = spelt;
  one = HasField-grows middle new left first (length right) two.grows one.has;
  two = two.has;
  seam = one.end ∙ sym two.start;
  grows = Grows-twice old middle new (length left) (length right) (length text) one.grows two.grows (omega (arith, ap length spelt, length-append left (sp ∷ right)));
}

-- a field that stands there has no space in its text
pub Lacks-known : (octets text : List ℕ) (span : Span) → HasField octets text span → Lacks sp text
Lacks-known octets text span has = rw has.spelt (Lacks-space has.field)

-- the payload is one that stood there, or comes now
pub KeepsTriple-known : (old new text rest : List ℕ) (known : Known) (first second : Span) → text ≡ known.text.items ++ sp ∷ rest
    → HasField old known.text.items known.span → KeepsPair old new rest first second → KeepsTriple old new text known first second
KeepsTriple-known old new text rest known first second spelt has pair = record {
  left = pair.left;
  right = pair.right;
  spelt = spelt ∙ ap (λ t. known.text.items ++ sp ∷ t) pair.spelt;
  payload = HasField-grows old new known.text.items known.span (length rest) pair.grows has;
  one = pair.one;
  two = pair.two;
  seam = pair.seam;
  grows = Grows-more old new (length rest) (length text) pair.grows (omega (arith, ap length spelt, length-append known.text.items (sp ∷ rest)));
}

pub KeepsTriple-payload : (old middle new text first rest : List ℕ) (known : Known) (left right : Span) → text ≡ first ++ sp ∷ rest
    → KeepsPayload old middle first known → KeepsPair middle new rest left right → KeepsTriple old new text known left right
KeepsTriple-payload old middle new text first rest known left right spelt payload pair = record {
  left = pair.left;
  right = pair.right;
  spelt = spelt ∙ ap (λ t. t ++ sp ∷ rest) (sym payload.same) ∙ ap (λ t. known.text.items ++ sp ∷ t) pair.spelt;
  payload = HasField-grows middle new known.text.items known.span (length rest) pair.grows payload.has;
  one = pair.one;
  two = pair.two;
  seam = pair.seam;
  grows = Grows-twice old middle new (length first) (length rest) (length text) payload.grows pair.grows (omega (arith, ap length spelt, length-append first (sp ∷ rest)));
}

-- ---- the line at a place

says_trust : (payload signature : List ℕ) → 0 < length payload → answer_by_fields payload [] signature ≡ Trust payload
says_trust [] signature some = absurd (omega (arith, some))
says_trust (x ∷ payload) signature some = refl

says_yes : (payload octets signature : List ℕ) → 0 < length payload → 0 < length octets
    → answer_by_fields payload octets signature ≡ Yes payload octets signature
says_yes [] octets signature some more = absurd (omega (arith, some))
says_yes (x ∷ payload) [] signature some more = absurd (omega (arith, more))
says_yes (x ∷ payload) (y ∷ octets) signature some more = refl

pub KeepsLine-trust : (old new text rest : List ℕ) (known : Known) → text ≡ codes "trust " ++ rest → KeepsPayload old new rest known
    → KeepsLine old new text (place_of known.span no_span no_span)
unfolding answer_at
KeepsLine-trust old new text rest known spelt kept =
    let has = kept.has in
    record {
      line = Trust has.field;
      fields = has.is_field;
      spelt = spelt ∙ ap (λ t. codes "trust " ++ t) (sym kept.same ∙ has.spelt);
      says = rw (has.here, part-none) (says_trust has.field [] has.is_field.some);
      within = (has.within, omega arith, omega arith);
      grows = Grows-more old new (length rest) (length text) kept.grows (omega (arith, ap length spelt, length-append (codes "trust ") rest));
    }

-- the signature stands after the octets
second_here : (new right : List ℕ) (first second : Span) (two : HasField new right second) → first.end ≡ second.start → part new first.end second.end ≡ two.field
second_here new right first second two seam = ap (λ n. part new n second.end) seam ∙ two.here

pub KeepsLine-seal : (old new text rest : List ℕ) (first second : Span) → text ≡ codes "seal " ++ rest → KeepsPair old new rest first second
    → KeepsLine old new text (place_of no_span first second)
unfolding answer_at
KeepsLine-seal old new text rest first second spelt kept =
    let here = second_here new kept.right first second kept.two kept.seam in
    record {
      line = Seal kept.one.field kept.two.field;
      fields = (kept.one.is_field, kept.two.is_field);
      spelt = spelt ∙ ap (λ t. codes "seal " ++ t) (kept.spelt ∙ ap (λ t. t ++ sp ∷ kept.right) kept.one.spelt ∙ ap (λ t. base64 kept.one.field ++ sp ∷ t) kept.two.spelt);
      says = rw (part-none, kept.one.here, here) refl;
      within = (omega arith, kept.one.within, kept.two.within);
      grows = Grows-more old new (length rest) (length text) kept.grows (omega (arith, ap length spelt, length-append (codes "seal ") rest));
    }

pub KeepsLine-yes : (old new text rest : List ℕ) (known : Known) (first second : Span) → text ≡ codes "yes " ++ rest
    → KeepsTriple old new rest known first second → KeepsLine old new text (place_of known.span first second)
unfolding answer_at
KeepsLine-yes old new text rest known first second spelt kept =
    let here = second_here new kept.right first second kept.two kept.seam in
    let payload = kept.payload in
    let fields : known.text.items ++ sp ∷ (kept.left ++ sp ∷ kept.right) ≡ base64 payload.field ++ sp ∷ (base64 kept.one.field ++ sp ∷ base64 kept.two.field) =
    ap (λ t. t ++ sp ∷ (kept.left ++ sp ∷ kept.right)) payload.spelt ∙ ap (λ t. base64 payload.field ++ sp ∷ (t ++ sp ∷ kept.right)) kept.one.spelt
    ∙ ap (λ t. base64 payload.field ++ sp ∷ (base64 kept.one.field ++ sp ∷ t)) kept.two.spelt in
    record {
      line = Yes payload.field kept.one.field kept.two.field;
      fields = (payload.is_field, kept.one.is_field, kept.two.is_field);
      spelt = spelt ∙ ap (λ t. codes "yes " ++ t) (kept.spelt ∙ fields);
      says = rw (payload.here, kept.one.here, here) (says_yes payload.field kept.one.field kept.two.field payload.is_field.some kept.one.is_field.some);
      within = (payload.within, kept.one.within, kept.two.within);
      grows = Grows-more old new (length rest) (length text) kept.grows (omega (arith, ap length spelt, length-append (codes "yes ") rest));
    }

-- ---- one line more

within-more : (m n : ℕ) (places : List Place) → m ≤ n → AllByRecursion (IsWithin m) places → AllByRecursion (IsWithin n) places
within-more m n [] le h = tt
within-more m n (x ∷ places) le h = ((omega (arith, h.0.0), omega (arith, h.0.1), omega (arith, h.0.2)), within-more m n places le h.1)

within-push : (n : ℕ) (places : List Place) (place : Place) → AllByRecursion (IsWithin n) places → IsWithin n place → AllByRecursion (IsWithin n) (places ++ place ∷ [])
within-push n [] place h k = (k, tt)
within-push n (x ∷ places) place h k = (h.0, within-push n places place h.1 k)

answers_at-push : (octets : List ℕ) (places : List Place) (place : Place) → answers_at octets (places ++ place ∷ []) ≡ answers_at octets places ++ answer_at octets place ∷ []
answers_at-push octets [] place = refl
answers_at-push octets (x ∷ places) place = ap (λ t. answer_at octets x ∷ t) (answers_at-push octets places place)

pub answers-push : (old new text : List ℕ) (places : List Place) (place : Place) (kept : KeepsLine old new text place)
    → AllByRecursion (IsWithin (length old)) places → answers_at new (places ++ place ∷ []) ≡ answers_at old places ++ kept.line ∷ []
answers-push old new text places place kept within =
    answers_at-push new places place
    ∙ ap (λ t. answers_at t places ++ answer_at new place ∷ []) kept.grows.appended
    ∙ ap (λ t. t ++ answer_at new place ∷ []) (answers_at-append old kept.grows.more places within)
    ∙ ap (λ x. answers_at old places ++ x ∷ []) kept.says

pub within-kept : (old new text : List ℕ) (places : List Place) (place : Place) → KeepsLine old new text place
    → AllByRecursion (IsWithin (length old)) places → AllByRecursion (IsWithin (length new)) (places ++ place ∷ [])
within-kept old new text places place kept within =
    within-push (length new) places place (within-more (length old) (length new) places (length-Grows old new (length text) kept.grows) within) kept.within

pub length-answers_at : (octets : List ℕ) (places : List Place) → length (answers_at octets places) ≡ length places
length-answers_at octets [] = refl
length-answers_at octets (x ∷ places) = omega (arith, length-answers_at octets places)
