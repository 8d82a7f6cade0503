use Rattle.std.proofs.Common.{◌≡◌, ℕ, List, length, Result, sym, ap, ◌∙◌, subst}
use Rattle.std.specs.Prelude.{is_some}
use Rattle.ss_message.specs.Layout.{element_value}
use Rattle.ss_block.specs.declared.hash.Alg.{Alg}
use Rattle.ss_block.specs.declared.refusal.Refusal.{Refusal}
use Rattle.ss_block.specs.declared.spoil.Spoil.TheVariants as spoils
use Rattle.ss_block.specs.declared.reading.Reading.TheVariants.{Certificate}
use Rattle.ss_block.specs.Block as block
use Rattle.ss_octets.specs.StrictBase64.{octets_in}
use Rattle.ss_block.specs.Reading.{or_none, certificate_texts, certificate_numbers, certificate_reading}
use Rattle.ss_block.specs.Causes.{Reads, IsCertificateNumbers}
use Rattle.ss_block.specs.Versions.{is_version, alg_of}
use Rattle.ss_block.proofs.Refusals.{refused}
use Rattle.ss_block.proofs.CertificateCauses.{spoilt_version, spoilt_number, spoilt_sign}
use Rattle.ss_block.proofs.CertificateBlocks.{IsTold, is_short, is_answered}
use Rattle.ss_block.proofs.certificate_reading.named_block.Goals as goal

pub returns-in_err-alg : goal.returns-in_err-alg
returns-in_err-alg c =
    let e = element_value c.args.source.now c.args.element.now in
    refused (λ (b : block.Certificate). Certificate b) spoils.Version (is_version (certificate_texts e).ver) (λ (alg : Alg). alg ≡ alg_of (certificate_texts e).ver) (certificate_reading e) c.from_residual.result c.in_err-alg.field-0.0
    c.from_residual.ensures.1 c.in_err-alg.ensures (λ v. spoilt_version e c.requires.names v)

pub returns-in_err-numbers : goal.returns-in_err-numbers
returns-in_err-numbers c =
    let e = element_value c.args.source.now c.args.element.now in
    refused (λ (b : block.Certificate). Certificate b) spoils.Number (certificate_numbers (certificate_texts e)) (IsCertificateNumbers (certificate_texts e)) (certificate_reading e) c.from_residual-in_err-numbers.result c.in_err-numbers.field-0.0
    c.from_residual-in_err-numbers.ensures.1 c.in_err-numbers.ensures.value (λ u. spoilt_number e c.requires.names c.in_ok-alg.ensures.0 u)

pub returns-in_err-signature : goal.returns-in_err-signature
returns-in_err-signature c =
    let e = element_value c.args.source.now c.args.element.now in
    refused (λ (b : block.Certificate). Certificate b) spoils.Sign (is_some (octets_in (certificate_texts e).sign)) (λ (s : List ℕ). s ≡ or_none (octets_in (certificate_texts e).sign)) (certificate_reading e) c.from_residual-in_err-signature.result c.in_err-signature.field-0.0
    c.from_residual-in_err-signature.ensures.1 c.in_err-signature.ensures (λ s. spoilt_sign e c.requires.names c.in_ok-alg.ensures.0 c.in_ok-numbers.ensures.value.0 s)

pub returns-then-as_slice-numbers : goal.returns-then-as_slice-numbers
returns-then-as_slice-numbers c =
    let e = element_value c.args.source.now c.args.element.now in
    let read : IsTold e c.in_ok-alg.alg c.in_ok-numbers.numbers c.in_ok-signature.signature c.in_ok-fragment.fragment = record {
      raws = c.requires.raws;
      names = c.requires.names;
      version = c.in_ok-alg.ensures.0;
      alg_is = c.in_ok-alg.ensures.1;
      numbers = c.in_ok-numbers.ensures.value.0;
      numbers_are = c.in_ok-numbers.ensures.value.1;
      signed = c.in_ok-signature.ensures.0;
      sign_is = c.in_ok-signature.ensures.1;
      fragment_is = c.in_ok-fragment.ensures ∙ c.in_ok-text_of.ensures;
    } in
    is_short e c.in_ok-alg.alg c.in_ok-numbers.numbers c.in_ok-signature.signature c.in_ok-fragment.fragment read
    (λ same. c.if-as_slice-numbers.true (ap length c.as_slice.ensures ∙ same))

pub returns : goal.returns
returns c =
    let e = element_value c.args.source.now c.args.element.now in
    let read : IsTold e c.in_ok-alg.alg c.in_ok-numbers.numbers c.in_ok-signature.signature c.in_ok-fragment.fragment = record {
      raws = c.requires.raws;
      names = c.requires.names;
      version = c.in_ok-alg.ensures.0;
      alg_is = c.in_ok-alg.ensures.1;
      numbers = c.in_ok-numbers.ensures.value.0;
      numbers_are = c.in_ok-numbers.ensures.value.1;
      signed = c.in_ok-signature.ensures.0;
      sign_is = c.in_ok-signature.ensures.1;
      fragment_is = c.in_ok-fragment.ensures ∙ c.in_ok-text_of.ensures;
    } in
    subst (λ (r : Result block.Certificate Refusal). Reads (λ (b : block.Certificate). Certificate b) r (certificate_reading e)) (sym c.ok_or.ensures.value)
    (is_answered e c.in_ok-alg.alg c.in_ok-numbers.numbers c.in_ok-signature.signature c.in_ok-fragment.fragment read
    (ap length (sym c.as_slice.ensures) ∙ c.if-as_slice-numbers.false) c.new-block.result c.new-block.ensures.valid c.new-block.ensures.value)
