-- What a text stands for, its escapes undone, is a text.
use Rattle.std.proofs.Common.{◌≡◌, ℕ, ◌<◌, Bool, true, false, cond, eqb, ltb, not, length, List, [], ◌∷◌, ◌++◌, refl, sym, subst, arith}
use Rattle.std.specs.Str.{IsUtf8, is_utf8, all_scalars, encode_utf8_all}
use Rattle.std.proofs.Math.Utf8.{encode}
use Rattle.std.proofs.lemmas.Bool.{and_parts, or_parts, ltb-true, not-true}
use Rattle.std.proofs.lemmas.Str.{IsUtf8-append, IsUtf8-nil, IsUtf8-encode, IsUtf8-from_ascii, IsUtf8-from_is_utf8, is_utf8-from_IsUtf8}
use Rattle.ss_message.specs.Octets.{is_special}
use Rattle.ss_message.specs.Raw.{meant, meant_after}
use Rattle.ss_message.proofs.Characters.{all_plain, high_plain, encode_some, low_is, one_ascii}

no_backslash : (b : ℕ) → is_special b ≡ false → eqb b 92 ≡ false
no_backslash b e = (or_parts (eqb b 34) (eqb b 92) (or_parts _ (eqb b 93) e).0).1

-- octets without an escape stand for themselves
meant-plain : (x y : List ℕ) → all_plain x ≡ true → meant_after false (x ++ y) ≡ x ++ meant_after false y
meant-plain [] y h = refl
meant-plain (b ∷ x) y h =
    let t = and_parts (not (is_special b)) (all_plain x) h in
    rw (no_backslash b (not-true (is_special b) t.0), meant-plain x y t.1) refl

-- a `\` before them stands for itself
meant-plain_pending : (x y : List ℕ) → 0 < length x → all_plain x ≡ true → meant_after true (x ++ y) ≡ 92 ∷ (x ++ meant_after false y)
meant-plain_pending [] y some h = absurd (omega arith)
meant-plain_pending (b ∷ x) y some h =
    let t = and_parts (not (is_special b)) (all_plain x) h in
    rw (not-true (is_special b) t.0, meant-plain x y t.1) refl

-- an octet of ASCII before a text
ahead : (a : ℕ) (x : List ℕ) → a < 128 → IsUtf8 x → IsUtf8 (a ∷ x)
ahead a x h text = IsUtf8-append (a ∷ []) x (IsUtf8-from_ascii (a ∷ []) (one_ascii a h)) text

-- what the characters stand for, with a `\` before them or without
record IsText (octets : List ℕ) : Type 0 where
  alone : IsUtf8 (meant_after false octets)
  pending : IsUtf8 (meant_after true octets)

high : (c : ℕ) (cs : List ℕ) → all_scalars (c ∷ cs) ≡ true → ltb c 128 ≡ false → IsText (encode_utf8_all cs) → IsText (encode c ++ encode_utf8_all cs)
high c cs h is rest =
    let both = IsUtf8-append (encode c) (meant_after false (encode_utf8_all cs)) (IsUtf8-encode c (and_parts _ _ h).0) rest.alone in
    record {
      alone = subst IsUtf8 (sym (meant-plain (encode c) (encode_utf8_all cs) (high_plain c is))) both;
      pending = subst IsUtf8 (sym (meant-plain_pending (encode c) (encode_utf8_all cs) (encode_some c) (high_plain c is))) (ahead 92 _ (omega arith) both);
    }

low : (c : ℕ) (octets : List ℕ) → c < 128 → IsText octets → IsText (c ∷ octets)
low c octets small rest = record { alone = by_backslash c octets small rest (eqb c 92); pending = by_class c octets small rest (is_special c) }
  where
    by_backslash : (c : ℕ) (octets : List ℕ) → c < 128 → IsText octets → (t : Bool) → IsUtf8 (cond t (meant_after true octets) (c ∷ meant_after false octets))
    by_backslash c octets small rest true = rest.pending
    by_backslash c octets small rest false = ahead c _ small rest.alone

    by_class : (c : ℕ) (octets : List ℕ) → c < 128 → IsText octets → (t : Bool) → IsUtf8 (cond t (c ∷ meant_after false octets) (92 ∷ c ∷ meant_after false octets))
    by_class c octets small rest true = ahead c _ small rest.alone
    by_class c octets small rest false = ahead 92 _ (omega arith) (ahead c _ small rest.alone)

characters : (cs : List ℕ) → all_scalars cs ≡ true → IsText (encode_utf8_all cs)
characters [] h = record { alone = IsUtf8-nil; pending = ahead 92 [] (omega arith) IsUtf8-nil }
characters (c ∷ cs) h = by_size c cs h (characters cs (and_parts _ _ h).1) (ltb c 128) refl
  where
    by_size : (c : ℕ) (cs : List ℕ) → all_scalars (c ∷ cs) ≡ true → IsText (encode_utf8_all cs) → (t : Bool) → ltb c 128 ≡ t → IsText (encode_utf8_all (c ∷ cs))
    by_size c cs h rest true is = subst (λ (x : List ℕ). IsText (x ++ encode_utf8_all cs)) (sym (low_is c is)) (low c (encode_utf8_all cs) (ltb-true c 128 is) rest)
    by_size c cs h rest false is = high c cs h is rest

-- what a text stands for is a text
pub is_utf8-meant : (raw : List ℕ) → is_utf8 raw ≡ true → is_utf8 (meant raw) ≡ true
is_utf8-meant raw h =
    let u = IsUtf8-from_is_utf8 raw h in
    is_utf8-from_IsUtf8 (meant raw) (subst (λ (v : List ℕ). IsUtf8 (meant v)) u.1.1 (characters u.0 u.1.0).alone)
