-- HB, as it grows by one hash after the other.
use Rattle.std.proofs.Common.{◌≡◌, ℕ, zero, suc, ◌+◌, ◌<◌, List, [], ◌∷◌, ◌++◌, length, get_or, take, refl, sym, ap, ◌∙◌, append_assoc, arith}
use Rattle.std.proofs.lemmas.List.{take_more}
use Rattle.ss_block.specs.declared.hash.Hash.{Hash}
use Rattle.ss_octets.specs.StrictBase64.{base64}
use Rattle.ss_block.specs.Writing.{hash_octets, hashes_text}

text-push : (h : Hash) (hs : List Hash) (x : Hash) → hashes_text ((h ∷ hs) ++ x ∷ []) ≡ hashes_text (h ∷ hs) ++ 32 ∷ base64 (hash_octets x)
text-push h [] x = refl
text-push h (next ∷ hs) x =
    ap (λ (l : List ℕ). base64 (hash_octets h) ++ 32 ∷ l) (text-push next hs x) ∙ sym (append_assoc (base64 (hash_octets h)) (32 ∷ hashes_text (next ∷ hs)) (32 ∷ base64 (hash_octets x)))

-- a further hash, after an SP
pub one_more : (hs : List Hash) (i : ℕ) (d : Hash) (text : List ℕ) → 0 < i → i < length hs → text ≡ hashes_text (take i hs)
    → (text ++ 32 ∷ []) ++ base64 (hash_octets (get_or hs i d)) ≡ hashes_text (take (i + 1) hs)
one_more [] i d text some lt is = absurd (omega arith)
one_more (h ∷ hs) zero d text some lt is = absurd (omega arith)
one_more (h ∷ hs) (suc i) d text some lt is =
    append_assoc text (32 ∷ []) (base64 (hash_octets (get_or hs i d)))
    ∙ ap (λ (t : List ℕ). t ++ 32 ∷ base64 (hash_octets (get_or hs i d))) is
    ∙ sym (text-push h (take i hs) (get_or hs i d))
    ∙ ap hashes_text (sym (take_more (h ∷ hs) (suc i) d lt))

-- the first hash
pub the_first : (hs : List Hash) (i : ℕ) (d : Hash) (text : List ℕ) → i ≡ 0 → i < length hs → text ≡ hashes_text (take i hs)
    → text ++ base64 (hash_octets (get_or hs i d)) ≡ hashes_text (take (i + 1) hs)
the_first [] i d text none lt is = absurd (omega arith)
the_first (h ∷ hs) (suc i) d text none lt is = absurd (omega arith)
the_first (h ∷ hs) zero d text none lt is = ap (λ (t : List ℕ). t ++ base64 (hash_octets h)) is

-- ---- a step of the loop

pub put_more : (hs : List Hash) (i : ℕ) (d : Hash) (before text octets out : List ℕ) → 0 < i → i < length hs → before ≡ hashes_text (take i hs)
    → text ≡ before ++ 32 ∷ [] → octets ≡ hash_octets (get_or hs i d) → out ≡ text ++ base64 octets → out ≡ hashes_text (take (i + 1) hs)
put_more hs i d before text octets out some lt is spaced hash put =
    put ∙ ap (λ (t : List ℕ). t ++ base64 octets) spaced ∙ ap (λ (t : List ℕ). (before ++ 32 ∷ []) ++ base64 t) hash ∙ one_more hs i d before some lt is

pub put_first : (hs : List Hash) (i : ℕ) (d : Hash) (before text octets out : List ℕ) → i ≡ 0 → i < length hs → before ≡ hashes_text (take i hs)
    → text ≡ before → octets ≡ hash_octets (get_or hs i d) → out ≡ text ++ base64 octets → out ≡ hashes_text (take (i + 1) hs)
put_first hs i d before text octets out none lt is same hash put =
    put ∙ ap (λ (t : List ℕ). t ++ base64 octets) same ∙ ap (λ (t : List ℕ). before ++ base64 t) hash ∙ the_first hs i d before none lt is
