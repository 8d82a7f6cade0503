use Rattle.std.proofs.Common.{◌≡◌, ℕ, List, Result, sym, subst}
use Rattle.std.specs.Prelude.{is_some}
use Rattle.ss_message.specs.Layout.{element_value}
use Rattle.ss_block.specs.declared.hash.Alg.{Alg}
use Rattle.ss_block.specs.declared.hash.Hash.{Hash}
use Rattle.ss_block.specs.declared.refusal.Refusal.{Refusal}
use Rattle.ss_block.specs.declared.spoil.Spoil.TheVariants as spoils
use Rattle.ss_block.specs.declared.reading.Reading.TheVariants.{Signature}
use Rattle.ss_block.specs.Block as block
use Rattle.ss_octets.specs.StrictBase64.{octets_in}
use Rattle.ss_block.specs.Reading.{pieces, hashes_in, or_none, signature_texts, signature_numbers, signature_reading}
use Rattle.ss_block.specs.Causes.{Reads, IsSignatureNumbers, hash_causes}
use Rattle.ss_block.specs.Versions.{is_version, alg_of}
use Rattle.ss_block.proofs.Refusals.{refused, refused_first}
use Rattle.ss_block.proofs.SignatureCauses.{spoilt_version, spoilt_number, spoilt_hashes, spoilt_sign}
use Rattle.ss_block.proofs.SignatureBlocks.{IsTold, is_answered}
use Rattle.ss_block.proofs.signature_reading.named_block.Goals as goal

pub returns-in_err-alg : goal.returns-in_err-alg
returns-in_err-alg c =
    let e = element_value c.args.source.now c.args.element.now in
    refused (λ (b : block.Signature). Signature b) spoils.Version (is_version (signature_texts e).ver) (λ (alg : Alg). alg ≡ alg_of (signature_texts e).ver) (signature_reading e) c.from_residual.result c.in_err-alg.field-0.0
    c.from_residual.ensures.1 c.in_err-alg.ensures (λ v. spoilt_version e c.requires.names v)

pub returns-in_err-numbers : goal.returns-in_err-numbers
returns-in_err-numbers c =
    let e = element_value c.args.source.now c.args.element.now in
    refused (λ (b : block.Signature). Signature b) spoils.Number (signature_numbers (signature_texts e)) (IsSignatureNumbers (signature_texts e)) (signature_reading e) c.from_residual-in_err-numbers.result c.in_err-numbers.field-0.0
    c.from_residual-in_err-numbers.ensures.1 c.in_err-numbers.ensures.value (λ u. spoilt_number e c.requires.names c.in_ok-alg.ensures.0 u)

pub returns-in_err-hashes : goal.returns-in_err-hashes
returns-in_err-hashes c =
    let e = element_value c.args.source.now c.args.element.now in
    refused_first (λ (b : block.Signature). Signature b) (hash_causes (signature_texts e)) (λ (h : List Hash). h ≡ hashes_in c.in_ok-alg.alg (pieces (signature_texts e).hb)) (signature_reading e) c.from_residual-in_err-hashes.result c.in_err-hashes.field-0.0
    c.from_residual-in_err-hashes.ensures.1 c.in_err-hashes.ensures (λ cause h. spoilt_hashes e cause c.requires.names c.in_ok-alg.ensures.0 c.in_ok-numbers.ensures.value.0 h)

pub returns-in_err-signature : goal.returns-in_err-signature
returns-in_err-signature c =
    let e = element_value c.args.source.now c.args.element.now in
    refused (λ (b : block.Signature). Signature b) spoils.Sign (is_some (octets_in (signature_texts e).sign)) (λ (s : List ℕ). s ≡ or_none (octets_in (signature_texts e).sign)) (signature_reading e) c.from_residual-in_err-signature.result c.in_err-signature.field-0.0
    c.from_residual-in_err-signature.ensures.1 c.in_err-signature.ensures (λ s. spoilt_sign e c.requires.names c.in_ok-alg.ensures.0 c.in_ok-numbers.ensures.value.0 c.in_ok-hashes.ensures.0 s)

pub returns : goal.returns
returns c =
    let e = element_value c.args.source.now c.args.element.now in
    let read : IsTold e c.in_ok-alg.alg c.in_ok-numbers.numbers c.in_ok-hashes.hashes c.in_ok-signature.signature = record {
      names = c.requires.names;
      version = c.in_ok-alg.ensures.0;
      alg_is = c.in_ok-alg.ensures.1;
      numbers = c.in_ok-numbers.ensures.value.0;
      numbers_are = c.in_ok-numbers.ensures.value.1;
      hashed = c.in_ok-hashes.ensures.0;
      hashes_are = c.in_ok-hashes.ensures.1;
      signed = c.in_ok-signature.ensures.0;
      sign_is = c.in_ok-signature.ensures.1;
    } in
    subst (λ (r : Result block.Signature Refusal). Reads (λ (b : block.Signature). Signature b) r (signature_reading e)) (sym c.ok_or.ensures.value)
    (is_answered e c.in_ok-alg.alg c.in_ok-numbers.numbers c.in_ok-hashes.hashes c.in_ok-signature.signature read c.new-block.result c.new-block.ensures.valid c.new-block.ensures.value)
