-- The values of a written block are texts, and each states what was written.
use Rattle.std.proofs.Common.{◌≡◌, ◌==◌, ℕ, zero, suc, ◌<◌, ◌≤◌, ◌^◌, true, cond, eqb, List, [], ◌∷◌, ◌++◌, length, map, Option, Some, None, refl, ap, ◌∙◌, arith}
use Rattle.std.specs.Prelude.{is_some, decimal}
use Rattle.std.specs.List.{AllByRecursion, list_all}
use Rattle.std.specs.Str.{IsAscii}
use Rattle.std.proofs.lemmas.Bool.{and_parts, and_from}
use Rattle.std.proofs.lemmas.Fmt.{IsAscii-decimal}
use Rattle.std.proofs.lemmas.List.Splits.{slice_split_none, slice_split_at}
use Rattle.std.proofs.lemmas.Str.{IsAscii-append, IsUtf8-from_ascii, is_utf8-from_IsUtf8}
use Rattle.base64.specs.Engines.{standard}
use Rattle.base64.proofs.EngineFacts.{IsAscii-encode_of}
use Rattle.ss_message.specs.Raw.{escaped, is_raw}
use Rattle.ss_message.proofs.TextEscapes.{text_is_raw}
use Rattle.ss_block.specs.declared.hash.Alg.{Alg}
use Rattle.ss_block.specs.declared.hash.Alg.TheVariants as algs
use Rattle.ss_block.specs.declared.hash.Hash.{Hash}
use Rattle.ss_block.specs.declared.hash.Hash.TheVariants as hashes
use Rattle.ss_block.specs.Block.{is_of}
use Rattle.ss_octets.specs.StrictBase64.{base64}
use Rattle.ss_block.specs.Reading.{hash_decoded, hash_in, hash_list, hashes_in, pieces}
use Rattle.ss_block.specs.Writing.{hash_octets, hashes_text}
use Rattle.ss_block.specs.WritingLaws.{IsHash}
use Rattle.ss_block.specs.Versions.{is_version, alg_of, version_text}
use Rattle.ss_octets.proofs.Base64Text.{octets_in-base64, no_space}

-- ---- values that may stand

raw_ascii : (value : List ℕ) → IsAscii value → is_raw (escaped value) ≡ true
raw_ascii value h = text_is_raw value (is_utf8-from_IsUtf8 value (IsUtf8-from_ascii value h))

ascii_four : (a b c d : ℕ) → a < 128 → b < 128 → c < 128 → d < 128 → IsAscii (a ∷ b ∷ c ∷ d ∷ [])
ascii_four a b c d la lb lc ld zero = la
ascii_four a b c d la lb lc ld (suc zero) = lb
ascii_four a b c d la lb lc ld (suc (suc zero)) = lc
ascii_four a b c d la lb lc ld (suc (suc (suc zero))) = ld
ascii_four a b c d la lb lc ld (suc (suc (suc (suc i)))) = omega arith

pub raw_version : (alg : Alg) → is_raw (escaped (version_text alg)) ≡ true
raw_version algs.Sha1 = raw_ascii (version_text algs.Sha1) (ascii_four 48 49 49 49 (omega arith) (omega arith) (omega arith) (omega arith))
raw_version algs.Sha256 = raw_ascii (version_text algs.Sha256) (ascii_four 48 49 50 49 (omega arith) (omega arith) (omega arith) (omega arith))

pub raw_number : (n : ℕ) → n < 2 ^ 64 → is_raw (escaped (decimal n)) ≡ true
raw_number n small = raw_ascii (decimal n) (IsAscii-decimal n small)

ascii_base64 : (octets : List ℕ) → IsAscii (base64 octets)
unfolding base64
ascii_base64 octets = IsAscii-encode_of standard octets

pub raw_base64 : (octets : List ℕ) → is_raw (escaped (base64 octets)) ≡ true
raw_base64 octets = raw_ascii (base64 octets) (ascii_base64 octets)

ascii_space : IsAscii (32 ∷ [])
ascii_space zero = omega arith
ascii_space (suc i) = omega arith

ascii_hashes : (hs : List Hash) → IsAscii (hashes_text hs)
ascii_hashes [] i = omega arith
ascii_hashes (h ∷ []) i = ascii_base64 (hash_octets h) i
ascii_hashes (h ∷ next ∷ hs) i =
    IsAscii-append (base64 (hash_octets h)) (32 ∷ hashes_text (next ∷ hs)) (ascii_base64 (hash_octets h)) (IsAscii-append (32 ∷ []) (hashes_text (next ∷ hs)) ascii_space (ascii_hashes (next ∷ hs))) i

pub raw_hashes : (hs : List Hash) → is_raw (escaped (hashes_text hs)) ≡ true
raw_hashes hs = raw_ascii (hashes_text hs) (ascii_hashes hs)

-- ---- VER

pub version_is : (alg : Alg) → is_version (version_text alg) ≡ true
version_is algs.Sha1 = refl
version_is algs.Sha256 = refl

pub alg_is : (alg : Alg) → alg_of (version_text alg) ≡ alg
alg_is algs.Sha1 = refl
alg_is algs.Sha256 = refl

-- ---- HB

abbrev pub hash_texts : List Hash → List (List ℕ)
hash_texts hs = map (λ h. base64 (hash_octets h)) hs

-- cut at each SP, the hashes are as they were joined
pub pieces_are : (h : Hash) (hs : List Hash) → pieces (hashes_text (h ∷ hs)) ≡ hash_texts (h ∷ hs)
pieces_are h [] = slice_split_none (λ b. b == 32) (base64 (hash_octets h)) (no_space (hash_octets h))
pieces_are h (next ∷ hs) =
    slice_split_at (λ b. b == 32) (base64 (hash_octets h)) 32 (hashes_text (next ∷ hs)) (no_space (hash_octets h)) refl
    ∙ ap (λ (l : List (List ℕ)). base64 (hash_octets h) ∷ l) (pieces_are next hs)

pub pieces_some : (hs : List Hash) → 1 ≤ length hs → pieces (hashes_text hs) ≡ hash_texts hs
pieces_some [] some = absurd (omega arith)
pieces_some (h ∷ hs) some = pieces_are h hs

pub hash_again : (alg : Alg) (h : Hash) → is_of alg h ≡ true → IsHash h → hash_in alg (base64 (hash_octets h)) ≡ Some h
hash_again algs.Sha1 (hashes.Sha1 octets) e is =
    ap (hash_decoded algs.Sha1) (octets_in-base64 octets is.1 (omega (arith, is.0))) ∙ ap (λ (n : ℕ). cond (eqb n 20) (Some (hashes.Sha1 octets)) None) is.0
hash_again algs.Sha1 (hashes.Sha256 octets) e is = absurd cc
hash_again algs.Sha256 (hashes.Sha1 octets) e is = absurd cc
hash_again algs.Sha256 (hashes.Sha256 octets) e is =
    ap (hash_decoded algs.Sha256) (octets_in-base64 octets is.1 (omega (arith, is.0))) ∙ ap (λ (n : ℕ). cond (eqb n 32) (Some (hashes.Sha256 octets)) None) is.0

pub all_hashes : (alg : Alg) (hs : List Hash) → list_all (is_of alg) hs ≡ true → AllByRecursion IsHash hs → list_all (λ piece. is_some (hash_in alg piece)) (hash_texts hs) ≡ true
all_hashes alg [] e are = refl
all_hashes alg (h ∷ hs) e are =
    let t = and_parts (is_of alg h) (list_all (is_of alg) hs) e in
    and_from _ _ (ap is_some (hash_again alg h t.0 are.0)) (all_hashes alg hs t.1 are.1)

pub hashes_again : (alg : Alg) (hs : List Hash) → list_all (is_of alg) hs ≡ true → AllByRecursion IsHash hs → hashes_in alg (hash_texts hs) ≡ hs
hashes_again alg [] e are = refl
hashes_again alg (h ∷ hs) e are =
    let t = and_parts (is_of alg h) (list_all (is_of alg) hs) e in
    ap (λ (o : Option Hash). hash_list o ++ hashes_in alg (hash_texts hs)) (hash_again alg h t.0 are.0)
    ∙ ap (λ (l : List Hash). h ∷ l) (hashes_again alg hs t.1 are.1)
