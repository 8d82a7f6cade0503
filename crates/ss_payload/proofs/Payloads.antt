-- Payload blocks: what is read was spelled so, and what is spelled so is read.
use Rattle.std.proofs.Common.{◌≡◌, ℕ, suc, ◌+◌, ◌<◌, Bool, true, false, not, cond, eqb, ltb, ◌==◌, ◌⊎◌, inl, inr, List, [], ◌∷◌, ◌++◌, length, take, drop, get_or, Option, Some, None, refl, sym, ap, subst, ◌∙◌, append_assoc, length-append, arith}
use Rattle.std.specs.Prelude.{IfSome, IfOk, Result, Ok, Err, option_map}
use Rattle.std.specs.List.{position, prefix_len}
use Rattle.std.proofs.lemmas.Bool.{eqb-true, lt-ltb}
use Rattle.std.proofs.lemmas.List.{take_at, drop_more, take-append-drop}
use Rattle.std.proofs.Math.Seq.{drop-append-add}
use Rattle.std.proofs.lemmas.List.Quantifiers.{position-Some}
use Rattle.base64.specs.GeneralPurpose.{IsBytes}
use Rattle.ss_message.specs.Octets.{is_absent, is_no_space}
use Rattle.ss_message.specs.Stamp.{Moment, is_stamp, stamp_text}
use Rattle.ss_message.specs.Message.{timestamp_text, is_timestamp}
use Rattle.ss_octets.specs.Cut.{parts_at}
use Rattle.ss_message.specs.StampReading.{◌>>=◌, past, stamp_of}
use Rattle.ss_message.proofs.Numbers.{bind_some, chosen_some, some_is, past_takes}
use Rattle.ss_message.proofs.Stamps.{stamp_takes, stamp_again}
use Rattle.ss_payload.specs.declared.kind.Kind.{Kind}
use Rattle.ss_payload.specs.declared.kind.Kind.TheVariants.{C, P, K, N, U}
use Rattle.ss_octets.specs.StrictBase64.{base64, octets_in}
use Rattle.ss_payload.specs.Payload.{PayloadValue, IsPayload, Spells, letter, blob_text, is_blob, if_suited, payload_text}
use Rattle.ss_payload.specs.Payload.Spells.{exactly, with_space}
use Rattle.ss_payload.specs.PayloadReading.{stamp_in, stamp_and_rest_in, kind_in, no_blob_in, some_blob_in, blob_in, first_in, payload_in}
use Rattle.ss_octets.proofs.Base64Text.{octets_in-base64, is_base64}
use Rattle.ss_payload.proofs.StampEnds.{stamp_ends}

-- What spells stamps, and reads each that is spelled, is what is read as a stamp.
pub moment_is : (text : List ℕ) (r : Option Moment) → IfSome r (λ m. text ≡ stamp_text m) → ((m : Moment) → is_stamp m ≡ true → text ≡ stamp_text m → r ≡ Some m)
    → is_timestamp r ≡ true → r ≡ stamp_of text
moment_is text (Some m) found only valid = sym (ap stamp_of found ∙ stamp_again m valid)
moment_is text None found only valid = none_read (stamp_of text) refl
  where
    none_read : (o : Option Moment) → stamp_of text ≡ o → None ≡ stamp_of text
    none_read None e = sym e
    none_read (Some m) e = let t = stamp_takes text m e in let h : None ≡ Some m = only m t.0 t.1 in absurd cc

-- ---- the stamp

map_some : {A B : Type 0} (f : A → B) (o : Option A) (y : B) → option_map f o ≡ Some y → (x : A) × (o ≡ Some x) × (f x ≡ y)
map_some f (Some x) y e = (x, refl, some_is (f x) y e)
map_some f None y e = absurd cc

position_is : (text : List ℕ) (n : ℕ) → prefix_len is_no_space text ≡ n → n < length text → position (λ octet. octet == 32) text ≡ Some n
position_is text n e lt = let t : ltb n (length text) ≡ true = lt-ltb n (length text) lt in rw (e, t) refl

parts_take : (text : List ℕ) (x : List ℕ × List ℕ) → parts_at 32 text ≡ Some x → text ≡ x.0 ++ 32 ∷ x.1
unfolding parts_at
parts_take text x e =
    let f : ℕ → List ℕ × List ℕ = λ i. (take i text, drop (i + 1) text) in
    let m = map_some f (position (λ octet. octet == 32) text) x e in
    let found = position-Some (λ octet. octet == 32) text m.0 0 m.1 in
    let lt : m.0 < length text = found.0 in
    let space : get_or text m.0 0 ≡ 32 = eqb-true _ _ found.1 in
    let behind : drop m.0 text ≡ 32 ∷ drop (m.0 + 1) text = drop_more text m.0 0 lt ∙ ap (λ b. b ∷ drop (m.0 + 1) text) space in
    subst (λ (y : List ℕ × List ℕ). text ≡ y.0 ++ 32 ∷ y.1) m.2 (sym (take-append-drop m.0 text) ∙ ap (λ (t : List ℕ). take m.0 text ++ t) behind)

parts_again : (s : Option Moment) (rest : List ℕ) → is_timestamp s ≡ true → parts_at 32 (timestamp_text s ++ 32 ∷ rest) ≡ Some (timestamp_text s, rest)
unfolding parts_at
parts_again s rest valid =
    let front : List ℕ = timestamp_text s in
    let text : List ℕ = front ++ 32 ∷ rest in
    let f : ℕ → List ℕ × List ℕ = λ i. (take i text, drop (i + 1) text) in
    let lt : length front < length text = omega (arith, length-append front (32 ∷ rest)) in
    let at : position (λ octet. octet == 32) text ≡ Some (length front) = position_is text (length front) (stamp_ends s rest valid) lt in
    let before : take (length front) text ≡ front = take_at front (32 ∷ rest) (length front) refl in
    let behind : drop (length front + 1) text ≡ rest = drop-append-add front (32 ∷ rest) 1 in
    ap (option_map f) at ∙ rw (before, behind) refl

absent_is : (text : List ℕ) → is_absent text ≡ true → text ≡ 45 ∷ []
absent_is [] e = absurd cc
absent_is (b ∷ []) e = ap (λ v. v ∷ []) (eqb-true b 45 e)
absent_is (b ∷ c ∷ rest) e = absurd cc

stamp_present : (m : Moment) → is_absent (stamp_text m) ≡ false
unfolding stamp_text
stamp_present m = refl

stamp_in_takes : (text : List ℕ) (s : Option Moment) → stamp_in text ≡ Some s → text ≡ timestamp_text s
unfolding stamp_in
stamp_in_takes text s e = by_absence text s (is_absent text) refl e
  where
    by_absence : (text : List ℕ) (s : Option Moment) (b : Bool) → is_absent text ≡ b → cond b (Some None) (option_map (λ m. Some m) (stamp_of text)) ≡ Some s → text ≡ timestamp_text s
    by_absence text s true absent e = absent_is text absent ∙ ap timestamp_text (some_is None s e)
    by_absence text s false present e =
        let m = map_some (λ m. Some m) (stamp_of text) s e in
        (stamp_takes text m.0 m.1).1 ∙ ap timestamp_text m.2

stamp_in_again : (s : Option Moment) → is_timestamp s ≡ true → stamp_in (timestamp_text s) ≡ Some s
unfolding stamp_in
stamp_in_again None valid = refl
stamp_in_again (Some m) valid = rw (stamp_present m, stamp_again m valid) refl

front_takes : (text : List ℕ) (x : Option Moment × List ℕ) → stamp_and_rest_in text ≡ Some x → text ≡ timestamp_text x.0 ++ 32 ∷ x.1
unfolding stamp_and_rest_in
front_takes text x e =
    let a = bind_some (parts_at 32 text) (λ parts. stamp_in parts.0 >>= λ stamp. Some (stamp, parts.1)) x e in
    let b = bind_some (stamp_in a.0.0) (λ stamp. Some (stamp, a.0.1)) x a.2 in
    let made : Option Moment × List ℕ = (b.0, a.0.1) in
    let t = parts_take text a.0 a.1 in
    subst (λ (y : Option Moment × List ℕ). text ≡ timestamp_text y.0 ++ 32 ∷ y.1) (some_is made x b.2)
    (t ∙ ap (λ (f : List ℕ). f ++ 32 ∷ a.0.1) (stamp_in_takes a.0.0 b.0 b.1))

front_again : (s : Option Moment) (rest : List ℕ) → is_timestamp s ≡ true → stamp_and_rest_in (timestamp_text s ++ 32 ∷ rest) ≡ Some (s, rest)
unfolding stamp_and_rest_in
front_again s rest valid = rw (parts_again s rest valid, stamp_in_again s valid) refl

-- ---- the letter

chosen : (b : Bool) (k kind : Kind) (o : Option Kind) → cond b (Some k) o ≡ Some kind → ((b ≡ true) × (k ≡ kind)) ⊎ (o ≡ Some kind)
chosen true k kind o e = inl (refl, some_is k kind e)
chosen false k kind o e = inr e

letter_is : (octet : ℕ) (k kind : Kind) → (eqb octet (letter k) ≡ true) × (k ≡ kind) → octet ≡ letter kind
letter_is octet k kind w = eqb-true octet (letter k) w.0 ∙ ap letter w.1

kind_takes : (octet : ℕ) (kind : Kind) → kind_in octet ≡ Some kind → octet ≡ letter kind
kind_takes octet kind e =
    elim (chosen (eqb octet 67) C kind _ e) [
      | inl w ↦ letter_is octet C kind w
      | inr e ↦
          elim (chosen (eqb octet 80) P kind _ e) [
            | inl w ↦ letter_is octet P kind w
            | inr e ↦
                elim (chosen (eqb octet 75) K kind _ e) [
                  | inl w ↦ letter_is octet K kind w
                  | inr e ↦
                      elim (chosen (eqb octet 78) N kind _ e) [
                        | inl w ↦ letter_is octet N kind w
                        | inr e ↦
                            elim (chosen (eqb octet 85) U kind _ e) [ inl w ↦ letter_is octet U kind w | inr e ↦ absurd cc ]
                      ]
                ]
          ]
    ]

kind_again : (kind : Kind) → kind_in (letter kind) ≡ Some kind
kind_again C = refl
kind_again P = refl
kind_again K = refl
kind_again N = refl
kind_again U = refl

-- ---- the blob

-- the text stands after the letter of the blob's type; after `N` it may be SP
pub data Follows (kind : Kind) (blob : List ℕ) (text : List ℕ) : Type 0 where
  blob_alone : text ≡ blob_text kind blob → Follows kind blob text
  blob_space : kind ≡ N → text ≡ blob_text kind blob ++ 32 ∷ [] → Follows kind blob text

some_blob_takes : (text blob : List ℕ) → IsBytes text → some_blob_in text ≡ Some blob → text ≡ 32 ∷ base64 blob
some_blob_takes text blob bytes e =
    let a = bind_some (past 32 text) octets_in blob e in
    let space = past_takes 32 text a.0 a.1 in
    let behind : IsBytes (32 ∷ a.0) = subst IsBytes space bytes in
    space ∙ ap (λ (t : List ℕ). 32 ∷ t) (is_base64 a.0 blob (λ i. behind (suc i)) a.2).spelled

some_blob_again : (text blob : List ℕ) → IsBytes blob → not (eqb (length blob) 0) ≡ true → text ≡ 32 ∷ base64 blob → some_blob_in text ≡ Some blob
some_blob_again text [] bytes some e = absurd cc
some_blob_again text (b ∷ blob) bytes some e = rw (e, octets_in-base64 (b ∷ blob) bytes (omega arith)) refl

no_blob_takes : (text blob : List ℕ) → no_blob_in text ≡ Some blob → Follows N blob text
no_blob_takes [] blob e = blob_alone refl
no_blob_takes (b ∷ []) blob e = blob_space refl (ap (λ v. v ∷ []) (eqb-true b 32 (chosen_some (eqb b 32) (Some []) blob e).0))
no_blob_takes (b ∷ next ∷ rest) blob e = absurd cc

no_blob_again : (text blob : List ℕ) → eqb (length blob) 0 ≡ true → Follows N blob text → no_blob_in text ≡ Some blob
no_blob_again text (b ∷ blob) none follows = let e : length (b ∷ blob) ≡ 0 = eqb-true _ _ none in absurd (omega arith)
no_blob_again text [] none (blob_alone e) = rw e refl
no_blob_again text [] none (blob_space k e) = rw e refl

-- after a letter other than `N`
only_alone : (kind : Kind) (blob text : List ℕ) → (kind ≡ N → ⊥) → Follows kind blob text → text ≡ blob_text kind blob
only_alone kind blob text other (blob_alone e) = e
only_alone kind blob text other (blob_space k e) = absurd (other k)

blob_takes : (kind : Kind) (text : List ℕ) (blob : List ℕ) → IsBytes text → blob_in kind text ≡ Some blob → Follows kind blob text
unfolding blob_in
blob_takes C text blob bytes e = blob_alone (some_blob_takes text blob bytes e)
blob_takes P text blob bytes e = blob_alone (some_blob_takes text blob bytes e)
blob_takes K text blob bytes e = blob_alone (some_blob_takes text blob bytes e)
blob_takes N text blob bytes e = no_blob_takes text blob e
blob_takes U text blob bytes e = blob_alone (some_blob_takes text blob bytes e)

blob_again : (kind : Kind) (blob text : List ℕ) → IsBytes blob → is_blob kind blob ≡ true → Follows kind blob text → blob_in kind text ≡ Some blob
unfolding blob_in
blob_again C blob text bytes suits follows = some_blob_again text blob bytes suits (only_alone C blob text (λ h. cc) follows)
blob_again P blob text bytes suits follows = some_blob_again text blob bytes suits (only_alone P blob text (λ h. cc) follows)
blob_again K blob text bytes suits follows = some_blob_again text blob bytes suits (only_alone K blob text (λ h. cc) follows)
blob_again N blob text bytes suits follows = no_blob_again text blob suits follows
blob_again U blob text bytes suits follows = some_blob_again text blob bytes suits (only_alone U blob text (λ h. cc) follows)

-- ---- the whole

bytes_behind : (front rest : List ℕ) → IsBytes (front ++ rest) → IsBytes rest
bytes_behind [] rest bytes = bytes
bytes_behind (b ∷ front) rest bytes = bytes_behind front rest (λ i. bytes (suc i))

first_takes : (text : List ℕ) (x : ℕ × List ℕ) → first_in text ≡ Some x → text ≡ x.0 ∷ x.1
first_takes [] x e = absurd cc
first_takes (b ∷ rest) x e = let made : ℕ × List ℕ = (b, rest) in subst (λ (y : ℕ × List ℕ). b ∷ rest ≡ y.0 ∷ y.1) (some_is made x e) refl

-- what stands after the letter, and so what the whole text spells
spells_with : (s : Option Moment) (kind : Kind) (blob follow text : List ℕ) → text ≡ timestamp_text s ++ 32 ∷ letter kind ∷ follow → Follows kind blob follow
    → Spells text (record { stamp = s; kind = kind; blob = blob })
unfolding payload_text
spells_with s kind blob follow text e (blob_alone f) = exactly (e ∙ ap (λ (t : List ℕ). timestamp_text s ++ 32 ∷ letter kind ∷ t) f)
spells_with s kind blob follow text e (blob_space k f) =
    with_space k (e ∙ ap (λ (t : List ℕ). timestamp_text s ++ 32 ∷ letter kind ∷ t) f ∙ sym (append_assoc (timestamp_text s) (32 ∷ letter kind ∷ blob_text kind blob) (32 ∷ [])))

spells_made : (text : List ℕ) (p : PayloadValue) (front : Option Moment × List ℕ) (first : ℕ × List ℕ) (kind : Kind) (blob : List ℕ) → IsBytes text
    → text ≡ timestamp_text front.0 ++ 32 ∷ front.1 → front.1 ≡ first.0 ∷ first.1 → first.0 ≡ letter kind → blob_in kind first.1 ≡ Some blob
    → if_suited (record { stamp = front.0; kind = kind; blob = blob }) ≡ Some p → Spells text p
spells_made text p front first kind blob bytes e1 e2 e3 e4 e =
    let made : PayloadValue = record { stamp = front.0; kind = kind; blob = blob } in
    let before : List ℕ = timestamp_text front.0 ++ 32 ∷ letter kind ∷ [] in
    let spelled : text ≡ timestamp_text front.0 ++ 32 ∷ letter kind ∷ first.1 = e1 ∙ ap (λ (t : List ℕ). timestamp_text front.0 ++ 32 ∷ t) (e2 ∙ ap (λ (v : ℕ). v ∷ first.1) e3) in
    let whole : text ≡ before ++ first.1 = spelled ∙ sym (append_assoc (timestamp_text front.0) (32 ∷ letter kind ∷ []) first.1) in
    let behind : IsBytes first.1 = bytes_behind before first.1 (subst IsBytes whole bytes) in
    subst (Spells text) (some_is made p (chosen_some (is_blob kind blob) (Some made) p e).1)
    (spells_with front.0 kind blob first.1 text spelled (blob_takes kind first.1 blob behind e4))

payload_takes : (text : List ℕ) (p : PayloadValue) → IsBytes text → payload_in text ≡ Some p → Spells text p
unfolding payload_in
payload_takes text p bytes e =
    let a = bind_some (stamp_and_rest_in text) (λ stamp. first_in stamp.1 >>= λ first. kind_in first.0 >>= λ kind. blob_in kind first.1 >>= λ blob. if_suited (record { stamp = stamp.0; kind = kind; blob = blob })) p e in
    let b = bind_some (first_in a.0.1) (λ first. kind_in first.0 >>= λ kind. blob_in kind first.1 >>= λ blob. if_suited (record { stamp = a.0.0; kind = kind; blob = blob })) p a.2 in
    let c = bind_some (kind_in b.0.0) (λ kind. blob_in kind b.0.1 >>= λ blob. if_suited (record { stamp = a.0.0; kind = kind; blob = blob })) p b.2 in
    let d = bind_some (blob_in c.0 b.0.1) (λ blob. if_suited (record { stamp = a.0.0; kind = c.0; blob = blob })) p c.2 in
    spells_made text p a.0 b.0 c.0 d.0 bytes (front_takes text a.0 a.1) (first_takes a.0.1 b.0 b.1) (kind_takes b.0.0 c.0 c.1) d.1 d.2

reads_with : (p : PayloadValue) (follow : List ℕ) → IsPayload p → Follows p.kind p.blob follow → payload_in (timestamp_text p.stamp ++ 32 ∷ letter p.kind ∷ follow) ≡ Some p
unfolding payload_in
reads_with p follow valid follows =
    rw (front_again p.stamp (letter p.kind ∷ follow) valid.stamp, kind_again p.kind, blob_again p.kind p.blob follow valid.octets valid.blob follows, valid.blob) refl

-- a payload is read from its text
pub payload_again : (text : List ℕ) (p : PayloadValue) → IsPayload p → Spells text p → payload_in text ≡ Some p
unfolding payload_in payload_text
payload_again text p valid (exactly e) = ap payload_in e ∙ reads_with p (blob_text p.kind p.blob) valid (blob_alone refl)
payload_again text p valid (with_space k e) =
    ap payload_in (e ∙ append_assoc (timestamp_text p.stamp) (32 ∷ letter p.kind ∷ blob_text p.kind p.blob) (32 ∷ []))
    ∙ reads_with p (blob_text p.kind p.blob ++ 32 ∷ []) valid (blob_space k refl)

pub same_payload : (p q : PayloadValue) → IsPayload p → IsPayload q → payload_text p ≡ payload_text q → p ≡ q
same_payload p q valid other same =
    some_is p q (sym (payload_again (payload_text p) p valid (exactly refl)) ∙ payload_again (payload_text p) q other (exactly same))

is_found : (text : List ℕ) (o : Option PayloadValue) → IsBytes text → o ≡ payload_in text → IfSome o IsPayload → IfSome o (λ p. IsPayload p × Spells text p)
is_found text (Some p) bytes e valid = (valid, payload_takes text p bytes (sym e))
is_found text None bytes e valid = tt

-- what a call answers that reads so
pub found_in : {E : Type 0} (text : List ℕ) (r : Result (Option PayloadValue) E) → IsBytes text → IfOk r (λ o. o ≡ payload_in text) → IfOk r (λ o. IfSome o IsPayload)
    → IfOk r (λ o. IfSome o (λ p. IsPayload p × Spells text p))
found_in text (Ok o) bytes e valid = is_found text o bytes e valid
found_in text (Err x) bytes e valid = tt

pub again_in : {E : Type 0} (text : List ℕ) (r : Result (Option PayloadValue) E) (p : PayloadValue) → IfOk r (λ o. o ≡ payload_in text) → IsPayload p → Spells text p
    → IfOk r (λ o. o ≡ Some p)
again_in text (Ok o) p e valid spelled = e ∙ payload_again text p valid spelled
again_in text (Err x) p e valid spelled = tt
