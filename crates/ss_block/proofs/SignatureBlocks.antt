-- A signature block is made of what was read exactly where the last message's number is in its range.
use Rattle.std.proofs.Common.{◌≡◌, ◌↔◌, ℕ, ◌+◌, true, false, List, length, Option, None, ap, subst, ◌∙◌, arith}
use Rattle.std.specs.Prelude.{nat_lt, is_some, IsSome, IfSome, ok_or}
use Rattle.std.proofs.lemmas.Bool.{eqb-true, le-ltb, ltb-false}
use Rattle.ss_message.specs.Message.{ElementValue}
use Rattle.ss_block.specs.declared.block.Group.{Group}
use Rattle.ss_block.specs.declared.hash.Alg.{Alg}
use Rattle.ss_block.specs.declared.hash.Hash.{Hash}
use Rattle.ss_block.specs.declared.spoil.Spoil.TheVariants as spoils
use Rattle.ss_block.specs.declared.reading.Reading.TheVariants.{Signature}
use Rattle.ss_block.specs.declared.signature_reading.SignatureNumbers.{SignatureNumbers}
use Rattle.ss_block.specs.Block as block
use Rattle.ss_block.specs.Block.{IsSignature}
use Rattle.ss_octets.specs.StrictBase64.{octets_in}
use Rattle.ss_octets.specs.Number.{number}
use Rattle.ss_block.specs.Reading.{has_parameters, first_cause, pieces, hashes_in, or_none, signature_names, SignatureTexts, signature_texts, signature_numbers, signature_block, signature_reading}
use Rattle.ss_block.specs.declared.refusal.Refusal.TheVariants as refusals
use Rattle.ss_block.specs.Causes.{Reads, hash_causes, IsSignatureNumbers}
use Rattle.ss_block.specs.Ranges.{last_number}
use Rattle.ss_block.specs.Versions.{is_version, alg_of}
use Rattle.ss_block.proofs.HashTexts.{length-hashes_in, all_of}
use Rattle.ss_block.proofs.BlockFields.{spelled, same_parts, answered}
use Rattle.ss_block.proofs.SignatureCauses.{of_block, spoilt_last, is_block, counted, hashed, both}

-- what the calls before found the element to be
pub record IsTold (e : ElementValue) (alg : Alg) (n : SignatureNumbers) (hashes : List Hash) (sign : List ℕ) : Type 0 where
  pub names : has_parameters signature_names e ≡ true
  pub version : is_version (signature_texts e).ver ≡ true
  pub alg_is : alg ≡ alg_of (signature_texts e).ver
  pub numbers : signature_numbers (signature_texts e) ≡ true
  pub numbers_are : IsSignatureNumbers (signature_texts e) n
  pub hashed : first_cause (hash_causes (signature_texts e)) ≡ None
  pub hashes_are : hashes ≡ hashes_in alg (pieces (signature_texts e).hb)
  pub signed : is_some (octets_in (signature_texts e).sign) ≡ true
  pub sign_is : sign ≡ or_none (octets_in (signature_texts e).sign)

abbrev pub block_from : Alg → ℕ → Group → ℕ → ℕ → List Hash → List ℕ → block.Signature
block_from alg rsid group gbc first hashes sign = record { alg = alg; rsid = rsid; group = group; gbc = gbc; first = first; hashes = hashes; signature = sign }

abbrev pub made : Alg → SignatureNumbers → List Hash → List ℕ → block.Signature
made alg n hashes sign = block_from alg n.rsid n.group n.gbc n.first hashes sign

count_is : (t : SignatureTexts) → first_cause (hash_causes t) ≡ None → length (hashes_in (alg_of t.ver) (pieces t.hb)) ≡ number t.cnt
count_is t h =
    let b = both (counted t) (hashed t) h in
    length-hashes_in (alg_of t.ver) (pieces t.hb) b.1 ∙ eqb-true (length (pieces t.hb)) (number t.cnt) b.0

in_range : (t : SignatureTexts) → signature_numbers t ≡ true → first_cause (hash_causes t) ≡ None → nat_lt 10000000000 (number t.fmn + number t.cnt) ≡ false → IsSignature (signature_block t)
in_range t numbers hashed l =
    let is = spelled 0 last_number 99 t.rsid t.sg t.spri t.gbc t.fmn t.cnt (omega arith) (omega arith) numbers in
    let many = count_is t hashed in
    let last = ltb-false 10000000000 (number t.fmn + number t.cnt) l in
    let some = is.some_z in
    let most = is.most_z in
    record {
      rsid = is.rsid;
      group = is.group;
      gbc = is.most_x;
      some_first = is.some_y;
      some_hash = omega arith;
      at_most_99_hashes = omega arith;
      hashes = all_of (alg_of t.ver) (pieces t.hb);
      last = omega arith;
    }

-- the answer of the call that makes the block
pub is_answered : (e : ElementValue) (alg : Alg) (n : SignatureNumbers) (hs : List Hash) (sign : List ℕ) → IsTold e alg n hs sign
    → (o : Option block.Signature) → IsSome o ↔ IsSignature (made alg n hs sign) → IfSome o (λ b. b ≡ made alg n hs sign)
    → Reads (λ (b : block.Signature). Signature b) (ok_or o (refusals.Spoilt spoils.LastNumber)) (signature_reading e)
is_answered e alg n hs sign read =
    let t = signature_texts e in
    let is = read.numbers_are in
    let many = count_is t read.hashed in
    answered (λ (b : block.Signature). Signature b) IsSignature spoils.LastNumber (nat_lt 10000000000 (number t.fmn + number t.cnt)) (signature_reading e) (signature_block t) (made alg n hs sign)
    (same_parts block_from alg _ n.rsid _ n.group.sg _ n.group.spri _ n.gbc _ n.first _ hs _ sign _ read.alg_is is.rsid is.sg is.spri is.gbc is.first (read.hashes_are ∙ ap (λ (a : Alg). hashes_in a (pieces t.hb)) read.alg_is) read.sign_is)
    (spoilt_last e read.names read.version read.numbers read.hashed read.signed)
    (is_block e read.names read.version read.numbers read.hashed read.signed)
    (in_range t read.numbers read.hashed)
    (λ valid. let last = valid.last in le-ltb 10000000000 (number t.fmn + number t.cnt) (omega arith))

-- what was read as a block
pub is_in_range : (e : ElementValue) (b : block.Signature) → signature_reading e ≡ Signature b → IsSignature b
is_in_range e b h =
    let u = of_block e b h in
    subst IsSignature u.6 (in_range (signature_texts e) u.2 u.3 u.5)
