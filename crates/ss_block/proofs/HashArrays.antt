-- Hashes as an array, as they are put and read one after the other.
use Rattle.std.proofs.Common.{◌≡◌, ℕ, zero, suc, ◌+◌, ◌-◌, ◌*◌, ◌/◌, ◌<◌, ◌≤◌, true, List, [], ◌∷◌, ◌++◌, length, take, drop, refl, sym, ap, ◌∙◌, append_assoc, arith, length-append}
use Rattle.std.specs.Prelude.{flat_map}
use Rattle.std.specs.List.{AllByRecursion, list_all}
use Rattle.std.proofs.lemmas.Bool.{and_parts}
use Rattle.std.proofs.lemmas.List.{take_at, drop_at, append-nil}
use Rattle.base64.specs.Rfc4648.{padding_len}
use Rattle.ss_octets.specs.StrictBase64.{base64}
use Rattle.ss_block.specs.declared.hash.Alg.{Alg}
use Rattle.ss_block.specs.declared.hash.Alg.TheVariants as algs
use Rattle.ss_block.specs.declared.hash.Hash.{Hash}
use Rattle.ss_block.specs.declared.hash.Hash.TheVariants as hashes
use Rattle.ss_block.specs.Block.{is_of}
use Rattle.ss_block.specs.HashArrays.{array_of, hashes_at, base64_more, text_more, IsArray}
use Rattle.ss_block.specs.Reading.{hash_with}
use Rattle.ss_block.specs.Versions.{hash_length}
use Rattle.ss_block.specs.Writing.{hash_octets, hashes_text}
use Rattle.ss_block.specs.WritingLaws.{IsHash}
use Rattle.ss_block.proofs.Lengths.{length-padded}

-- ---- an array is read back

length-hash : (alg : Alg) (h : Hash) → is_of alg h ≡ true → IsHash h → length (hash_octets h) ≡ hash_length alg
length-hash algs.Sha1 (hashes.Sha1 octets) of is = is.0
length-hash algs.Sha256 (hashes.Sha256 octets) of is = is.0
length-hash algs.Sha1 (hashes.Sha256 octets) of is = absurd cc
length-hash algs.Sha256 (hashes.Sha1 octets) of is = absurd cc

same_hash : (alg : Alg) (h : Hash) → is_of alg h ≡ true → hash_with alg (hash_octets h) ≡ h
same_hash algs.Sha1 (hashes.Sha1 octets) of = refl
same_hash algs.Sha256 (hashes.Sha256 octets) of = refl
same_hash algs.Sha1 (hashes.Sha256 octets) of = absurd cc
same_hash algs.Sha256 (hashes.Sha1 octets) of = absurd cc

-- how long a hash is in base64
pub length-text : (alg : Alg) (octets : List ℕ) → length octets ≡ hash_length alg → length (base64 octets) ≡ hash_length alg + base64_more alg
length-text algs.Sha1 octets size = length-padded octets ∙ ap (λ k. (4 * k + 2) / 3 + padding_len k) size
length-text algs.Sha256 octets size = length-padded octets ∙ ap (λ k. (4 * k + 2) / 3 + padding_len k) size

pub is_array : (alg : Alg) (hs : List Hash) → list_all (is_of alg) hs ≡ true → AllByRecursion IsHash hs → IsArray alg (array_of hs) hs
is_array alg [] of are = record { long = omega arith; text = omega arith; read = λ behind. refl }
is_array alg (h ∷ hs) of are =
    let t = and_parts (is_of alg h) (list_all (is_of alg) hs) of in
    let rest = is_array alg hs t.1 are.1 in
    let size = length-hash alg h t.0 are.0 in
    record {
      long = omega (arith, length-append (hash_octets h) (array_of hs), size, rest.long);
      text = with_others h hs size (length-text alg (hash_octets h) size) rest.text;
      read = λ behind. by_parts h hs t.0 size rest behind (array_of hs ++ behind) ((hash_octets h ++ array_of hs) ++ behind) refl (append_assoc (hash_octets h) (array_of hs) behind);
    }
  where
    with_others : (h : Hash) (hs : List Hash) → length (hash_octets h) ≡ hash_length alg → length (base64 (hash_octets h)) ≡ hash_length alg + base64_more alg → length (hashes_text hs) ≡ length (array_of hs) + text_more alg (length hs)
        → length (hashes_text (h ∷ hs)) ≡ length (array_of (h ∷ hs)) + text_more alg (length (h ∷ hs))
    with_others h [] size spelled others = omega (arith, size, spelled, length-append (hash_octets h) [])
    with_others h (next ∷ hs) size spelled others =
        omega (arith, size, spelled, others, length-append (hash_octets h) (array_of (next ∷ hs)), length-append (base64 (hash_octets h)) (32 ∷ hashes_text (next ∷ hs)))

    by_parts : (h : Hash) (hs : List Hash) → is_of alg h ≡ true → length (hash_octets h) ≡ hash_length alg → IsArray alg (array_of hs) hs → (behind after all : List ℕ) → after ≡ array_of hs ++ behind → all ≡ hash_octets h ++ after → hashes_at alg (suc (length hs)) all ≡ h ∷ hs
    by_parts h hs of size rest behind after all e f =
        let first = ap (take (hash_length alg)) f ∙ take_at (hash_octets h) after (hash_length alg) size in
        let others = ap (drop (hash_length alg)) f ∙ drop_at (hash_octets h) after (hash_length alg) size ∙ e in
        ap (λ (x : List ℕ). hash_with alg x ∷ hashes_at alg (length hs) (drop (hash_length alg) all)) first
        ∙ ap (λ (x : Hash). x ∷ hashes_at alg (length hs) (drop (hash_length alg) all)) (same_hash alg h of)
        ∙ ap (λ (x : List ℕ). h ∷ hashes_at alg (length hs) x) others
        ∙ ap (λ (x : List Hash). h ∷ x) (rest.read behind)

-- ---- hashes are read one after the other

hash_next : (alg : Alg) (n m : ℕ) (octets : List ℕ) → n ≡ suc m → hashes_at alg n octets ≡ hash_with alg (take (hash_length alg) octets) ∷ hashes_at alg m (drop (hash_length alg) octets)
hash_next alg n m octets e = ap (λ k. hashes_at alg k octets) e

enough_more : (n m size : ℕ) (rest after : List ℕ) → n ≡ suc m → n * size ≤ length rest → length after + size ≡ length rest → m * size ≤ length after
enough_more n m size rest after e enough cut = omega (arith, ap (λ (k : ℕ). k * size) e)

-- The first `i` of `count` hashes are read, and the others stand in `rest`.
pub record IsLeft (alg : Alg) (octets : List ℕ) (count i : ℕ) (done : List Hash) (rest : List ℕ) : Type 0 where
  pub enough : (count - i) * hash_length alg ≤ length rest
  pub all : done ++ hashes_at alg (count - i) rest ≡ hashes_at alg count octets

pub is_left_more : (alg : Alg) (octets : List ℕ) (count i : ℕ) (before done : List Hash) (rest hash after : List ℕ) (h : Hash) → i < count → IsLeft alg octets count i before rest
    → hash ≡ take (hash_length alg) rest → after ≡ drop (hash_length alg) rest → length after + hash_length alg ≡ length rest → h ≡ hash_with alg hash
    → done ≡ before ++ h ∷ [] → IsLeft alg octets count (i + 1) done after
is_left_more alg octets count i before done rest hash after h lt left is_hash is_after cut is pushed =
    let one : count - i ≡ suc (count - (i + 1)) = omega arith in
    record {
      enough = enough_more (count - i) (count - (i + 1)) (hash_length alg) rest after one left.enough cut;
      all =
          ap (λ (x : List Hash). x ++ hashes_at alg (count - (i + 1)) after) pushed
          ∙ append_assoc before (h ∷ []) (hashes_at alg (count - (i + 1)) after)
          ∙ ap (λ (x : List ℕ). before ++ h ∷ hashes_at alg (count - (i + 1)) x) is_after
          ∙ ap (λ (x : Hash). before ++ x ∷ hashes_at alg (count - (i + 1)) (drop (hash_length alg) rest)) (is ∙ ap (hash_with alg) is_hash)
          ∙ ap (λ (x : List Hash). before ++ x) (sym (hash_next alg (count - i) (count - (i + 1)) rest one))
          ∙ left.all;
    }

-- ---- HB is put, one hash after the other

-- what is still to be put of these hashes, after so many others
abbrev pub text_left : ℕ → List Hash → List ℕ
text_left zero hs = hashes_text hs
text_left (suc i) hs = flat_map (λ h. 32 ∷ base64 (hash_octets h)) hs

-- The text of the first `i` of `count` hashes is put, and the others stand in `rest`.
pub record IsLeftText (alg : Alg) (all : List ℕ) (count i : ℕ) (done rest : List ℕ) : Type 0 where
  pub enough : (count - i) * hash_length alg ≤ length rest
  pub text : done ++ text_left i (hashes_at alg (count - i) rest) ≡ all

pub hash_octets_with : (alg : Alg) (octets : List ℕ) → hash_octets (hash_with alg octets) ≡ octets
hash_octets_with algs.Sha1 octets = refl
hash_octets_with algs.Sha256 octets = refl

-- the text of hashes begins with that of the first
text_first : (h : Hash) (hs : List Hash) → hashes_text (h ∷ hs) ≡ base64 (hash_octets h) ++ text_left 1 hs
text_first h [] = sym (append-nil (base64 (hash_octets h)))
text_first h (next ∷ hs) = ap (λ (t : List ℕ). base64 (hash_octets h) ++ 32 ∷ t) (text_first next hs)

-- what is put of one hash
abbrev pub text_one : ℕ → List ℕ → List ℕ
text_one zero octets = base64 octets
text_one (suc i) octets = 32 ∷ base64 octets

-- what is put of a hash: an SP before it, unless it is the first
pub put_one : (i : ℕ) (before octets spaced done : List ℕ) → 0 < i → spaced ≡ before ++ 32 ∷ [] → done ≡ spaced ++ base64 octets → done ≡ before ++ text_one i octets
put_one zero before octets spaced done some is put = absurd (omega arith)
put_one (suc i) before octets spaced done some is put = put ∙ ap (λ (t : List ℕ). t ++ base64 octets) is ∙ append_assoc before (32 ∷ []) (base64 octets)

pub put_first : (i : ℕ) (before octets same done : List ℕ) → i ≡ 0 → same ≡ before → done ≡ same ++ base64 octets → done ≡ before ++ text_one i octets
put_first zero before octets same done none is put = put ∙ ap (λ (t : List ℕ). t ++ base64 octets) is
put_first (suc i) before octets same done none is put = absurd (omega arith)

text_next : (i : ℕ) (h : Hash) (hs : List Hash) → text_left i (h ∷ hs) ≡ text_one i (hash_octets h) ++ text_left (suc i) hs
text_next zero h hs = text_first h hs
text_next (suc i) h hs = refl

pub put_more : (alg : Alg) (all : List ℕ) (count i : ℕ) (before rest hash after done : List ℕ) → i < count → IsLeftText alg all count i before rest
    → hash ≡ take (hash_length alg) rest → after ≡ drop (hash_length alg) rest → length after + hash_length alg ≡ length rest → done ≡ before ++ text_one i hash
    → IsLeftText alg all count (i + 1) done after
put_more alg all count i before rest hash after done lt left is_hash is_after cut put =
    let one : count - i ≡ suc (count - (i + 1)) = omega arith in
    let next : i + 1 ≡ suc i = omega arith in
    let others = hashes_at alg (count - (i + 1)) (drop (hash_length alg) rest) in
    record {
      enough = enough_more (count - i) (count - (i + 1)) (hash_length alg) rest after one left.enough cut;
      text =
          ap (λ (x : List ℕ). done ++ text_left (i + 1) (hashes_at alg (count - (i + 1)) x)) is_after
          ∙ ap (λ (k : ℕ). done ++ text_left k others) next
          ∙ ap (λ (t : List ℕ). t ++ text_left (suc i) others) put
          ∙ append_assoc before (text_one i hash) (text_left (suc i) others)
          ∙ ap (λ (t : List ℕ). before ++ (text_one i t ++ text_left (suc i) others)) (is_hash ∙ sym (hash_octets_with alg (take (hash_length alg) rest)))
          ∙ ap (λ (t : List ℕ). before ++ t) (sym (text_next i (hash_with alg (take (hash_length alg) rest)) others))
          ∙ ap (λ (x : List Hash). before ++ text_left i x) (sym (hash_next alg (count - i) (count - (i + 1)) rest one))
          ∙ left.text;
    }
