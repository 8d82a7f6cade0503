-- A text whose pieces all spell hashes is the one spelling of these hashes, and it stands as it is, with no escapes.
use Rattle.std.proofs.Common.{◌≡◌, inl, inr, ℕ, suc, ◌+◌, ◌/◌, ◌%◌, ◌<◌, ◌==◌, Bool, true, false, cond, ltb, List, [], ◌∷◌, ◌++◌, length, Option, Some, None, refl, sym, ap, subst, ◌∙◌, arith}
use Rattle.std.specs.Prelude.{is_some}
use Rattle.std.specs.List.{AllByRecursion, list_all, join_with_byte, onto_first}
use Rattle.std.specs.Str.{is_utf8, all_scalars, encode_utf8_all}
use Rattle.std.proofs.Math.Utf8.{encode, scalar, scalar_cases}
use Rattle.std.proofs.lemmas.Bool.{and_parts, and_from, ltb-true}
use Rattle.std.proofs.lemmas.List.Splits.{join_with_byte-slice_split}
use Rattle.std.proofs.lemmas.Str.{IsUtf8-from_is_utf8}
use Rattle.base64.specs.GeneralPurpose.{IsBytes}
use Rattle.ss_octets.specs.StrictBase64.{octets_in, base64}
use Rattle.ss_octets.proofs.Base64Text.{Clear, Clear-base64, is_base64}
use Rattle.ss_message.specs.Octets.{is_special}
use Rattle.ss_message.specs.Raw.{meant, meant_after}
use Rattle.ss_message.proofs.Characters.{all_plain}
use Rattle.ss_block.specs.declared.hash.Alg.{Alg}
use Rattle.ss_block.specs.declared.hash.Alg.TheVariants as algs
use Rattle.ss_block.specs.declared.hash.Hash.{Hash}
use Rattle.ss_block.specs.Reading.{hash_with, hash_from, hash_decoded, hash_in, hash_list, hashes_in, pieces}
use Rattle.ss_block.specs.Versions.{hash_length}
use Rattle.ss_block.specs.Writing.{hash_octets, hashes_text}
use Rattle.ss_block.proofs.Lengths.{no_bytes, bytes_ahead}
use Rattle.ss_block.proofs.WrittenValues.{hash_texts}

-- ---- the octets of UTF-8 are below 256, and so are those of its pieces

below_end : (c : ℕ) → scalar c ≡ true → c < 1114112
below_end c e = elim (scalar_cases c e) [ inl below ↦ omega arith | inr above ↦ above.1 ]

-- an octet of a character behind its first, before others
next_bytes : (c : ℕ) (rest : List ℕ) → IsBytes rest → IsBytes ((128 + c % 64) ∷ rest)
next_bytes c rest bytes = bytes_ahead (128 + c % 64) rest (omega arith) bytes

-- the octets of a character, before others
character_bytes : (c : ℕ) (rest : List ℕ) → scalar c ≡ true → IsBytes rest → IsBytes (encode c ++ rest)
unfolding encode
character_bytes c rest e bytes = by_len c rest (below_end c e) bytes (ltb c 128) (ltb c 2048) (ltb c 65536) refl refl refl
  where
    by_len : (c : ℕ) (rest : List ℕ) → c < 1114112 → IsBytes rest → (one two three : Bool) → ltb c 128 ≡ one → ltb c 2048 ≡ two → ltb c 65536 ≡ three
        → IsBytes (cond one (c ∷ []) (cond two ((192 + c / 64) ∷ (128 + c % 64) ∷ []) (cond three ((224 + c / 4096) ∷ (128 + c / 64 % 64) ∷ (128 + c % 64) ∷ []) ((240 + c / 262144) ∷ (128 + c / 4096 % 64) ∷ (128 + c / 64 % 64) ∷ (128 + c % 64) ∷ []))) ++ rest)
    by_len c rest end bytes true two three is_one is_two is_three = let below = ltb-true c 128 is_one in bytes_ahead c rest (omega arith) bytes
    by_len c rest end bytes false true three is_one is_two is_three = let below = ltb-true c 2048 is_two in bytes_ahead (192 + c / 64) ((128 + c % 64) ∷ rest) (omega arith) (next_bytes c rest bytes)
    by_len c rest end bytes false false true is_one is_two is_three =
        let below = ltb-true c 65536 is_three in
        bytes_ahead (224 + c / 4096) ((128 + c / 64 % 64) ∷ (128 + c % 64) ∷ rest) (omega arith) (next_bytes (c / 64) ((128 + c % 64) ∷ rest) (next_bytes c rest bytes))
    by_len c rest end bytes false false false is_one is_two is_three =
        bytes_ahead (240 + c / 262144) ((128 + c / 4096 % 64) ∷ (128 + c / 64 % 64) ∷ (128 + c % 64) ∷ rest) (omega arith)
        (next_bytes (c / 4096) ((128 + c / 64 % 64) ∷ (128 + c % 64) ∷ rest) (next_bytes (c / 64) ((128 + c % 64) ∷ rest) (next_bytes c rest bytes)))

characters_bytes : (cs : List ℕ) → all_scalars cs ≡ true → IsBytes (encode_utf8_all cs)
characters_bytes [] e = no_bytes
characters_bytes (c ∷ cs) e =
    let t = and_parts (scalar c) (all_scalars cs) e in
    character_bytes c (encode_utf8_all cs) t.0 (characters_bytes cs t.1)

utf8_bytes : (text : List ℕ) → is_utf8 text ≡ true → IsBytes text
utf8_bytes text e = let u = IsUtf8-from_is_utf8 text e in subst IsBytes u.1.1 (characters_bytes u.0 u.1.0)

bytes_onto : (b : ℕ) (parts : List (List ℕ)) → b < 256 → AllByRecursion IsBytes parts → AllByRecursion IsBytes (onto_first b parts)
bytes_onto b [] small all = (bytes_ahead b [] small no_bytes, tt)
bytes_onto b (part ∷ parts) small all = (bytes_ahead b part small all.0, all.1)

bytes_cut : (text : List ℕ) → IsBytes text → AllByRecursion IsBytes (pieces text)
bytes_cut [] bytes = (bytes, tt)
bytes_cut (b ∷ text) bytes = by_space b text (bytes 0) (bytes_cut text (λ i. bytes (suc i))) (b == 32)
  where
    by_space : (b : ℕ) (text : List ℕ) → b < 256 → AllByRecursion IsBytes (pieces text) → (t : Bool) → AllByRecursion IsBytes (cond t ([] ∷ pieces text) (onto_first b (pieces text)))
    by_space b text small rest true = (no_bytes, rest)
    by_space b text small rest false = bytes_onto b (pieces text) small rest

-- ---- a piece is the base64 of its hash

octets_with : (alg : Alg) (octets : List ℕ) → hash_octets (hash_with alg octets) ≡ octets
octets_with algs.Sha1 octets = refl
octets_with algs.Sha256 octets = refl

octets_from : (alg : Alg) (octets : List ℕ) (h : Hash) → hash_from alg octets ≡ Some h → octets ≡ hash_octets h
octets_from alg octets h e = by_length alg octets h (length octets == hash_length alg) e
  where
    by_length : (alg : Alg) (octets : List ℕ) (h : Hash) (t : Bool) → cond t (Some (hash_with alg octets)) None ≡ Some h → octets ≡ hash_octets h
    by_length alg octets h true e = let same : hash_with alg octets ≡ h = cc in sym (octets_with alg octets) ∙ ap hash_octets same
    by_length alg octets h false e = absurd cc

piece_spelled : (alg : Alg) (piece : List ℕ) (h : Hash) → IsBytes piece → hash_in alg piece ≡ Some h → piece ≡ base64 (hash_octets h)
piece_spelled alg piece h bytes e = by_octets alg piece h bytes (octets_in piece) refl e
  where
    by_octets : (alg : Alg) (piece : List ℕ) (h : Hash) → IsBytes piece → (o : Option (List ℕ)) → octets_in piece ≡ o → hash_decoded alg o ≡ Some h → piece ≡ base64 (hash_octets h)
    by_octets alg piece h bytes None is e = absurd cc
    by_octets alg piece h bytes (Some octets) is e = (is_base64 piece octets bytes is).spelled ∙ ap base64 (octets_from alg octets h e)

pieces_spelled : (alg : Alg) (texts : List (List ℕ)) → AllByRecursion IsBytes texts → list_all (λ piece. is_some (hash_in alg piece)) texts ≡ true → texts ≡ hash_texts (hashes_in alg texts)
pieces_spelled alg [] bytes all = refl
pieces_spelled alg (piece ∷ texts) bytes all =
    let t = and_parts (is_some (hash_in alg piece)) (list_all (λ piece. is_some (hash_in alg piece)) texts) all in
    by_hash alg piece texts bytes.0 (pieces_spelled alg texts bytes.1 t.1) (hash_in alg piece) refl t.0
  where
    by_hash : (alg : Alg) (piece : List ℕ) (texts : List (List ℕ)) → IsBytes piece → texts ≡ hash_texts (hashes_in alg texts) → (o : Option Hash) → hash_in alg piece ≡ o → is_some o ≡ true
        → piece ∷ texts ≡ hash_texts (hash_list o ++ hashes_in alg texts)
    by_hash alg piece texts bytes rest None is some = absurd cc
    by_hash alg piece texts bytes rest (Some h) is some =
        ap (λ (x : List ℕ). x ∷ texts) (piece_spelled alg piece h bytes is) ∙ ap (λ (l : List (List ℕ)). base64 (hash_octets h) ∷ l) rest

pub text_spelled : (alg : Alg) (text : List ℕ) → is_utf8 text ≡ true → list_all (λ piece. is_some (hash_in alg piece)) (pieces text) ≡ true → text ≡ hashes_text (hashes_in alg (pieces text))
text_spelled alg text utf8 all = sym (join_with_byte-slice_split 32 text) ∙ ap (join_with_byte 32) (pieces_spelled alg (pieces text) (bytes_cut text (utf8_bytes text utf8)) all)

-- ---- it has no octet that would be escaped

plain_clear : (text : List ℕ) → Clear 34 text → Clear 92 text → Clear 93 text → all_plain text ≡ true
plain_clear [] quote backslash bracket = refl
plain_clear (b ∷ text) quote backslash bracket = rw (quote.0, backslash.0, bracket.0) (plain_clear text quote.1 backslash.1 bracket.1)

plain_base64 : (octets : List ℕ) → all_plain (base64 octets) ≡ true
plain_base64 octets = plain_clear (base64 octets) (Clear-base64 34 octets refl refl refl) (Clear-base64 92 octets refl refl refl) (Clear-base64 93 octets refl refl refl)

plain_append : (x y : List ℕ) → all_plain x ≡ true → all_plain y ≡ true → all_plain (x ++ y) ≡ true
plain_append [] y first second = second
plain_append (b ∷ x) y first second = let t = and_parts _ (all_plain x) first in and_from _ _ t.0 (plain_append x y t.1 second)

plain_hashes : (hs : List Hash) → all_plain (hashes_text hs) ≡ true
plain_hashes [] = refl
plain_hashes (h ∷ []) = plain_base64 (hash_octets h)
plain_hashes (h ∷ next ∷ hs) = plain_append (base64 (hash_octets h)) (32 ∷ hashes_text (next ∷ hs)) (plain_base64 (hash_octets h)) (plain_hashes (next ∷ hs))

-- octets that stand for a text with no such octet are that text
no_escape : (raw : List ℕ) → all_plain (meant raw) ≡ true → raw ≡ meant raw
no_escape [] plain = refl
no_escape (b ∷ raw) plain = by_backslash b raw (λ p. no_escape raw p) (b == 92) plain
  where
    pending : (raw : List ℕ) → all_plain (meant_after true raw) ≡ true → ⊥
    pending [] plain = absurd cc
    pending (b ∷ raw) plain = by_class b raw (is_special b) refl plain
      where
        by_class : (b : ℕ) (raw : List ℕ) (t : Bool) → is_special b ≡ t → all_plain (cond t (b ∷ meant_after false raw) (92 ∷ b ∷ meant_after false raw)) ≡ true → ⊥
        by_class b raw true is plain = let no : all_plain (b ∷ meant_after false raw) ≡ false = rw is refl in absurd cc
        by_class b raw false is plain = absurd cc

    by_backslash : (b : ℕ) (raw : List ℕ) → (all_plain (meant raw) ≡ true → raw ≡ meant raw) → (t : Bool) → all_plain (cond t (meant_after true raw) (b ∷ meant raw)) ≡ true → b ∷ raw ≡ cond t (meant_after true raw) (b ∷ meant raw)
    by_backslash b raw rest true plain = absurd (pending raw plain)
    by_backslash b raw rest false plain = ap (λ (x : List ℕ). b ∷ x) (rest (and_parts _ (all_plain (meant raw)) plain).1)

-- octets that stand for the spelling of hashes are that spelling
pub spelled_as_is : (raw : List ℕ) (hs : List Hash) → meant raw ≡ hashes_text hs → raw ≡ hashes_text hs
spelled_as_is raw hs is = no_escape raw (ap all_plain is ∙ plain_hashes hs) ∙ is
