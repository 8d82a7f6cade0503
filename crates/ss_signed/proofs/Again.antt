-- An element that is read as a block is read as the same block with another SIGN.
use Rattle.std.proofs.Common.{◌≡◌, ℕ, true, List, [], ◌∷◌, ◌++◌, length, ap, ◌∙◌, arith}
use Rattle.std.specs.Prelude.{codes, is_some}
use Rattle.ss_octets.specs.StrictBase64.{octets_in}
use Rattle.ss_message.specs.Message.{ParameterValue, ElementValue}
use Rattle.ss_block.specs.declared.reading.Reading.TheVariants.{Signature, Certificate}
use Rattle.ss_block.specs.Block as block
use Rattle.ss_block.specs.Reading.{or_none, signature_reading, certificate_reading}
use Rattle.ss_block.proofs.SignatureCauses as signatures
use Rattle.ss_block.proofs.CertificateCauses as certificates
use Rattle.ss_signed.specs.Completed.{some_sign}
use Rattle.ss_signed.proofs.Signs.{octet_zero, sign_read}

-- the block with another signature
abbrev pub signature_with : List ℕ → block.Signature → block.Signature
signature_with s b = record {
  alg = b.alg;
  rsid = b.rsid;
  group = b.group;
  gbc = b.gbc;
  first = b.first;
  hashes = b.hashes;
  signature = s;
}

abbrev pub certificate_with : List ℕ → block.Certificate → block.Certificate
certificate_with s b = record {
  alg = b.alg;
  rsid = b.rsid;
  group = b.group;
  total = b.total;
  index = b.index;
  fragment = b.fragment;
  signature = s;
}

abbrev pub signed_with : List ℕ → List ParameterValue → ParameterValue → ElementValue
signed_with id ps sign = record { id = id; parameters = ps ++ sign ∷ [] }

abbrev sign_of : List ℕ → ParameterValue
sign_of raw = record { name = codes "SIGN"; raw = raw }

sign_some : is_some (octets_in (codes "AA==")) ≡ true
sign_some = ap is_some sign_read

pub signature_again : (id : List ℕ) (ps : List ParameterValue) (raw : List ℕ) (b : block.Signature) → length ps ≡ 8
    → signature_reading (signed_with id ps (sign_of raw)) ≡ Signature b → signature_reading (signed_with id ps some_sign) ≡ Signature (signature_with octet_zero b)
signature_again id [] raw b eight h = absurd (omega arith)
signature_again id (p0 ∷ []) raw b eight h = absurd (omega arith)
signature_again id (p0 ∷ p1 ∷ []) raw b eight h = absurd (omega arith)
signature_again id (p0 ∷ p1 ∷ p2 ∷ []) raw b eight h = absurd (omega arith)
signature_again id (p0 ∷ p1 ∷ p2 ∷ p3 ∷ []) raw b eight h = absurd (omega arith)
signature_again id (p0 ∷ p1 ∷ p2 ∷ p3 ∷ p4 ∷ []) raw b eight h = absurd (omega arith)
signature_again id (p0 ∷ p1 ∷ p2 ∷ p3 ∷ p4 ∷ p5 ∷ []) raw b eight h = absurd (omega arith)
signature_again id (p0 ∷ p1 ∷ p2 ∷ p3 ∷ p4 ∷ p5 ∷ p6 ∷ []) raw b eight h = absurd (omega arith)
signature_again id (p0 ∷ p1 ∷ p2 ∷ p3 ∷ p4 ∷ p5 ∷ p6 ∷ p7 ∷ p8 ∷ ps) raw b eight h = absurd (omega arith)
signature_again id (p0 ∷ p1 ∷ p2 ∷ p3 ∷ p4 ∷ p5 ∷ p6 ∷ p7 ∷ []) raw b eight h =
    let ps : List ParameterValue = p0 ∷ p1 ∷ p2 ∷ p3 ∷ p4 ∷ p5 ∷ p6 ∷ p7 ∷ [] in
    let u = signatures.of_block (signed_with id ps (sign_of raw)) b h in
    signatures.is_block (signed_with id ps some_sign) u.0 u.1 u.2 u.3 sign_some u.5
    ∙ ap (λ (x : block.Signature). Signature (signature_with (or_none (octets_in (codes "AA=="))) x)) u.6
    ∙ ap (λ (s : List ℕ). Signature (signature_with s b)) (ap or_none sign_read)

pub certificate_again : (id : List ℕ) (ps : List ParameterValue) (raw : List ℕ) (b : block.Certificate) → length ps ≡ 8
    → certificate_reading (signed_with id ps (sign_of raw)) ≡ Certificate b → certificate_reading (signed_with id ps some_sign) ≡ Certificate (certificate_with octet_zero b)
certificate_again id [] raw b eight h = absurd (omega arith)
certificate_again id (p0 ∷ []) raw b eight h = absurd (omega arith)
certificate_again id (p0 ∷ p1 ∷ []) raw b eight h = absurd (omega arith)
certificate_again id (p0 ∷ p1 ∷ p2 ∷ []) raw b eight h = absurd (omega arith)
certificate_again id (p0 ∷ p1 ∷ p2 ∷ p3 ∷ []) raw b eight h = absurd (omega arith)
certificate_again id (p0 ∷ p1 ∷ p2 ∷ p3 ∷ p4 ∷ []) raw b eight h = absurd (omega arith)
certificate_again id (p0 ∷ p1 ∷ p2 ∷ p3 ∷ p4 ∷ p5 ∷ []) raw b eight h = absurd (omega arith)
certificate_again id (p0 ∷ p1 ∷ p2 ∷ p3 ∷ p4 ∷ p5 ∷ p6 ∷ []) raw b eight h = absurd (omega arith)
certificate_again id (p0 ∷ p1 ∷ p2 ∷ p3 ∷ p4 ∷ p5 ∷ p6 ∷ p7 ∷ p8 ∷ ps) raw b eight h = absurd (omega arith)
certificate_again id (p0 ∷ p1 ∷ p2 ∷ p3 ∷ p4 ∷ p5 ∷ p6 ∷ p7 ∷ []) raw b eight h =
    let ps : List ParameterValue = p0 ∷ p1 ∷ p2 ∷ p3 ∷ p4 ∷ p5 ∷ p6 ∷ p7 ∷ [] in
    let u = certificates.of_block (signed_with id ps (sign_of raw)) b h in
    certificates.is_block (signed_with id ps some_sign) u.0 u.1 u.2 sign_some u.4
    ∙ ap (λ (x : block.Certificate). Certificate (certificate_with (or_none (octets_in (codes "AA=="))) x)) u.5
    ∙ ap (λ (s : List ℕ). Certificate (certificate_with s b)) (ap or_none sign_read)
