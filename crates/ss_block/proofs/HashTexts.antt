-- Reading hashes one after the other, as a loop does.
use Rattle.std.proofs.Common.{◌≡◌, ℕ, Bool, true, false, ◌&&◌, cond, List, [], ◌∷◌, ◌++◌, length, ◌==◌, Option, Some, None, refl, sym, ap, ◌∙◌, append_assoc, arith, length-append}
use Rattle.std.specs.Prelude.{flat_map, is_some, if◌then◌else◌}
use Rattle.std.specs.List.{list_all}
use Rattle.std.proofs.lemmas.Bool.{and_parts, and_from, eqb-true}
use Rattle.std.proofs.lemmas.List.{append-nil}
use Rattle.std.proofs.lemmas.List.Folds.{list_all-append}
use Rattle.ss_block.specs.declared.hash.Alg.{Alg}
use Rattle.ss_block.specs.declared.hash.Alg.TheVariants as algs
use Rattle.ss_block.specs.declared.hash.Hash.{Hash}
use Rattle.ss_block.specs.declared.hash.Hash.TheVariants as hashes
use Rattle.ss_block.specs.Block.{is_of}
use Rattle.ss_octets.specs.StrictBase64.{octets_in}
use Rattle.ss_block.specs.Reading.{hash_list, hash_in, hash_from, hash_decoded, hash_with, hashes_in}
use Rattle.ss_block.specs.Versions.{hash_length}

-- the hashes of the texts that have one, and whether all have
abbrev pub hashes_by : (List ℕ → Option Hash) → List (List ℕ) → List Hash
hashes_by f texts = flat_map (λ text. hash_list (f text)) texts

abbrev pub all_by : (List ℕ → Option Hash) → List (List ℕ) → Bool
all_by f texts = list_all (λ text. is_some (f text)) texts

abbrev pub all_hashes_by : (List ℕ → Option Hash) → List (List ℕ) → Option (List Hash)
all_hashes_by f texts = if all_by f texts then Some (hashes_by f texts) else None

-- of all the texts these hashes were read, and those left are still to come
pub record HasRead (f : List ℕ → Option Hash) (texts : List (List ℕ)) (done : List Hash) (left : List (List ℕ)) : Type 0 where
  pub hashes : hashes_by f texts ≡ done ++ hashes_by f left
  pub all : all_by f texts ≡ all_by f left

pub begins : (f : List ℕ → Option Hash) (texts : List (List ℕ)) → HasRead f texts [] texts
begins f texts = record { hashes = refl; all = refl }

-- one more text is read
pub goes_on : (f : List ℕ → Option Hash) (texts : List (List ℕ)) (done : List Hash) (text : List ℕ) (left : List (List ℕ)) (h : Hash) → f text ≡ Some h → HasRead f texts done (text ∷ left) → HasRead f texts (done ++ h ∷ []) left
goes_on f texts done text left h e read =
    let first : hash_list (f text) ++ hashes_by f left ≡ h ∷ hashes_by f left = rw e refl in
    let one : (is_some (f text) && all_by f left) ≡ all_by f left = rw e refl in
    record {
      hashes = read.hashes ∙ ap (λ (x : List Hash). done ++ x) first ∙ sym (append_assoc done (h ∷ []) (hashes_by f left));
      all = read.all ∙ one;
    }

-- where a text has no hash, not all have
pub gives_up : (f : List ℕ → Option Hash) (texts : List (List ℕ)) (done : List Hash) (text : List ℕ) (left : List (List ℕ)) → f text ≡ None → HasRead f texts done (text ∷ left) → all_hashes_by f texts ≡ None
gives_up f texts done text left e read =
    let one : (is_some (f text) && all_by f left) ≡ false = rw e refl in
    ap (λ b. cond b (Some (hashes_by f texts)) None) (read.all ∙ one)

-- all texts are read
pub ends : (f : List ℕ → Option Hash) (texts : List (List ℕ)) (done : List Hash) → HasRead f texts done [] → all_hashes_by f texts ≡ Some done
ends f texts done read =
    ap (λ b. cond b (Some (hashes_by f texts)) None) read.all ∙ ap Some (read.hashes ∙ append-nil done)

-- ---- what was read

-- as many hashes as texts
pub length-hashes_by : (f : List ℕ → Option Hash) (texts : List (List ℕ)) → all_by f texts ≡ true → length (hashes_by f texts) ≡ length texts
length-hashes_by f [] h = refl
length-hashes_by f (text ∷ texts) h =
    let t = and_parts (is_some (f text)) (all_by f texts) h in
    omega (arith, one (f text) t.0, length-append (hash_list (f text)) (hashes_by f texts), length-hashes_by f texts t.1)
  where
    one : (o : Option Hash) → is_some o ≡ true → length (hash_list o) ≡ 1
    one (Some h) e = refl
    one None e = absurd cc

pub length-hashes_in : (alg : Alg) (texts : List (List ℕ)) → list_all (λ piece. is_some (hash_in alg piece)) texts ≡ true → length (hashes_in alg texts) ≡ length texts
length-hashes_in alg texts h = length-hashes_by (λ text. hash_in alg text) texts h

-- and each of the algorithm
from_fits : (alg : Alg) (octets : List ℕ) → list_all (is_of alg) (hash_list (hash_from alg octets)) ≡ true
from_fits algs.Sha1 octets = by_length octets (length octets == 20)
  where
    by_length : (octets : List ℕ) (t : Bool) → list_all (is_of algs.Sha1) (hash_list (cond t (Some (hashes.Sha1 octets)) None)) ≡ true
    by_length octets true = refl
    by_length octets false = refl
from_fits algs.Sha256 octets = by_length octets (length octets == 32)
  where
    by_length : (octets : List ℕ) (t : Bool) → list_all (is_of algs.Sha256) (hash_list (cond t (Some (hashes.Sha256 octets)) None)) ≡ true
    by_length octets true = refl
    by_length octets false = refl

one_fits : (alg : Alg) (octets : Option (List ℕ)) → list_all (is_of alg) (hash_list (hash_decoded alg octets)) ≡ true
one_fits alg None = refl
one_fits alg (Some octets) = from_fits alg octets

pub all_of : (alg : Alg) (texts : List (List ℕ)) → list_all (is_of alg) (hashes_in alg texts) ≡ true
all_of alg [] = refl
all_of alg (text ∷ texts) =
    list_all-append (is_of alg) (hash_list (hash_in alg text)) (hashes_in alg texts)
    ∙ and_from _ _ (one_fits alg (octets_in text)) (all_of alg texts)

-- ---- a text that spells none

-- where octets of the algorithm's length aren't spelled, no hash is
pub spells_none : (alg : Alg) (octets : Option (List ℕ)) → ((b : List ℕ) → length b ≡ hash_length alg → octets ≡ Some b → ⊥) → None ≡ hash_decoded alg octets
spells_none alg None h = refl
spells_none alg (Some b) h = by_length (length b == hash_length alg) refl
  where
    by_length : (t : Bool) → (length b == hash_length alg) ≡ t → None ≡ cond t (Some (hash_with alg b)) None
    by_length true e = absurd (h b (eqb-true (length b) (hash_length alg) e) refl)
    by_length false e = refl
