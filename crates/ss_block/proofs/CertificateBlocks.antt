-- A certificate block is made of what was read exactly where the fragment lies within the payload.
use Rattle.std.proofs.Common.{◌≡◌, ◌↔◌, ℕ, ◌+◌, true, false, List, length, Option, sym, ap, subst, ◌∙◌, arith}
use Rattle.std.specs.Prelude.{nat_lt, not, is_some, IsSome, IfSome, ok_or, ◌==◌}
use Rattle.std.proofs.lemmas.Bool.{not-false, eqb-true, eq-eqb, ne_eqb, le-ltb, ltb-false, or_parts, or_from, or_right, not_from_true, not_from_false}
use Rattle.ss_message.specs.Message.{ElementValue, has_raws}
use Rattle.ss_block.specs.declared.hash.Alg.{Alg}
use Rattle.ss_block.specs.declared.block.Group.{Group}
use Rattle.ss_block.specs.declared.spoil.Spoil.TheVariants as spoils
use Rattle.ss_block.specs.declared.refusal.Refusal.TheVariants as refusals
use Rattle.ss_block.specs.declared.reading.Reading.TheVariants.{Certificate, Spoilt}
use Rattle.ss_block.specs.declared.certificate_reading.CertificateNumbers.{CertificateNumbers}
use Rattle.ss_block.specs.Block as block
use Rattle.ss_block.specs.Block.{IsCertificate}
use Rattle.ss_octets.specs.StrictBase64.{octets_in}
use Rattle.ss_octets.specs.Number.{number}
use Rattle.ss_block.specs.Reading.{has_parameters, or_none, certificate_names, certificate_texts, certificate_numbers, certificate_block, certificate_reading}
use Rattle.ss_block.specs.Causes.{Reads, IsCertificateNumbers, misfits}
use Rattle.ss_block.specs.Versions.{is_version, alg_of}
use Rattle.ss_payload.specs.Ranges.{longest_payload}
use Rattle.ss_block.proofs.Values.{text_is_utf8}
use Rattle.ss_block.proofs.BlockFields.{spelled, same_parts, answered}
use Rattle.ss_block.proofs.CertificateCauses.{of_block, spoilt_fragment, is_block}

-- what the calls before found the element to be
pub record IsTold (e : ElementValue) (alg : Alg) (n : CertificateNumbers) (sign fragment : List ℕ) : Type 0 where
  pub raws : has_raws e ≡ true
  pub names : has_parameters certificate_names e ≡ true
  pub version : is_version (certificate_texts e).ver ≡ true
  pub alg_is : alg ≡ alg_of (certificate_texts e).ver
  pub numbers : certificate_numbers (certificate_texts e) ≡ true
  pub numbers_are : IsCertificateNumbers (certificate_texts e) n
  pub signed : is_some (octets_in (certificate_texts e).sign) ≡ true
  pub sign_is : sign ≡ or_none (octets_in (certificate_texts e).sign)
  pub fragment_is : fragment ≡ (certificate_texts e).frag

abbrev pub block_from : Alg → ℕ → Group → ℕ → ℕ → List ℕ → List ℕ → block.Certificate
block_from alg rsid group total index fragment sign = record { alg = alg; rsid = rsid; group = group; total = total; index = index; fragment = fragment; signature = sign }

abbrev pub made : Alg → CertificateNumbers → List ℕ → List ℕ → block.Certificate
made alg n sign fragment = block_from alg n.rsid n.group n.total n.index fragment sign

-- the fragment has other octets than FLEN
pub is_short : (e : ElementValue) (alg : Alg) (n : CertificateNumbers) (sign fragment : List ℕ) → IsTold e alg n sign fragment
    → (length fragment ≡ n.octets → ⊥) → certificate_reading e ≡ Spoilt spoils.Fragment
is_short e alg n sign fragment read other =
    let t = certificate_texts e in
    let many : length (t.frag) ≡ number t.flen → ⊥ = λ h. other (ap length read.fragment_is ∙ h ∙ sym read.numbers_are.octets) in
    spoilt_fragment e read.names read.version read.numbers read.signed
    (or_right (nat_lt (number t.tpbl + 1) (number t.index + number t.flen)) (not (length t.frag == number t.flen)) (not_from_false (length t.frag == number t.flen) (ne_eqb (length t.frag) (number t.flen) many)))

in_range : (e : ElementValue) → has_raws e ≡ true → certificate_numbers (certificate_texts e) ≡ true → misfits (certificate_texts e) ≡ false → IsCertificate (certificate_block (certificate_texts e))
in_range e raws numbers fits =
    let t = certificate_texts e in
    let is = spelled 1 longest_payload 9999 t.rsid t.sg t.spri t.tpbl t.index t.flen (omega arith) (omega arith) numbers in
    let parts = or_parts (nat_lt (number t.tpbl + 1) (number t.index + number t.flen)) (not (length t.frag == number t.flen)) fits in
    let within = ltb-false (number t.tpbl + 1) (number t.index + number t.flen) parts.0 in
    let many = eqb-true (length t.frag) (number t.flen) (not-false (length t.frag == number t.flen) parts.1) in
    let some = is.some_z in
    let most = is.most_z in
    record {
      rsid = is.rsid;
      group = is.group;
      total = is.most_x;
      some_index = is.some_y;
      some_octet = omega arith;
      at_most_9999_octets = omega arith;
      within = omega arith;
      fragment = text_is_utf8 e 7 raws;
    }

-- the answer of the call that makes the block
pub is_answered : (e : ElementValue) (alg : Alg) (n : CertificateNumbers) (sign fragment : List ℕ) → IsTold e alg n sign fragment → length fragment ≡ n.octets
    → (o : Option block.Certificate) → IsSome o ↔ IsCertificate (made alg n sign fragment) → IfSome o (λ b. b ≡ made alg n sign fragment)
    → Reads (λ (b : block.Certificate). Certificate b) (ok_or o (refusals.Spoilt spoils.Fragment)) (certificate_reading e)
is_answered e alg n sign fragment read many =
    let t = certificate_texts e in
    let is = read.numbers_are in
    let long : length t.frag ≡ number t.flen = ap length (sym read.fragment_is) ∙ many ∙ is.octets in
    answered (λ (b : block.Certificate). Certificate b) IsCertificate spoils.Fragment (misfits t) (certificate_reading e) (certificate_block t) (made alg n sign fragment)
    (same_parts block_from alg _ n.rsid _ n.group.sg _ n.group.spri _ n.total _ n.index _ fragment _ sign _ read.alg_is is.rsid is.sg is.spri is.total is.index read.fragment_is read.sign_is)
    (spoilt_fragment e read.names read.version read.numbers read.signed)
    (is_block e read.names read.version read.numbers read.signed)
    (in_range e read.raws read.numbers)
    (λ valid. let within = valid.within in
    or_from (nat_lt (number t.tpbl + 1) (number t.index + number t.flen)) (not (length t.frag == number t.flen))
    (le-ltb (number t.tpbl + 1) (number t.index + number t.flen) (omega arith))
    (not_from_true (length t.frag == number t.flen) (eq-eqb (length t.frag) (number t.flen) long)))

-- what was read as a block
pub is_in_range : (e : ElementValue) (b : block.Certificate) → has_raws e ≡ true → certificate_reading e ≡ Certificate b → IsCertificate b
is_in_range e b raws h =
    let u = of_block e b h in
    subst IsCertificate u.5 (in_range e raws u.2 u.4)
