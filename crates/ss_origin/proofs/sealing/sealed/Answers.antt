use Rattle.std.proofs.Common.{sym, ◌∙◌, subst}
use Rattle.ss_block.specs.Writing.{unsigned_signature_text, unsigned_certificate_text}
use Rattle.ss_origin.specs.declared.unsigned.Unsigned.TheVariants.{Signature, Certificate}
use Rattle.ss_origin.specs.Setting.{Setting}
use Rattle.ss_origin.specs.Emission.{IsSealed}
use Rattle.ss_origin.specs.Signing.{HasSession}
use Rattle.ss_origin.proofs.Sealed.{Signs, WritesSignature, WritesCertificate, sealed_signature, sealed_certificate}
use Rattle.ss_origin.proofs.sealing.sealed.Goals as goal

pub returns-in_ok-write_sig-in-Signature-clause-sealed : goal.returns-in_ok-write_sig-in-Signature-clause-sealed
returns-in_ok-write_sig-in-Signature-clause-sealed g c =
    let s : Setting = record { config = c.args.config.now; payload = g.J.Seals.payload c.args.sealer.now; valid = g.J.Seals.valid c.args.sealer.now } in
    let stamp = c.args.stamp.now in
    let b = c.in-Signature.block in
    let signed = c.in_ok-signature-in-Signature in
    let written = c.in_ok-write_sig-in-Signature in
    let own : HasSession s.config (Signature b) = rw c.in-Signature.is at c.requires.session in
    let octets = c.as_slice.ensures ∙ c.in_ok-octets-in-Signature.ensures in
    let signs : Signs s (unsigned_signature_text s.config.head stamp b) signed.signature
    = record { some_octet = signed.ensures.some_octet; at_most_1024 = signed.ensures.at_most_1024; valid = rw octets at signed.ensures.valid } in
    let writes : WritesSignature s stamp (record b { signature = signed.signature }) written.field-0
    = subst (λ b'. WritesSignature s stamp b' written.field-0) c.with_signature-block.ensures
    (record { text = written.ensures.text; read = written.ensures.read; signed = written.ensures.signed; session = written.ensures.session }) in
    subst (λ due. IsSealed s stamp due written.field-0) (sym c.in-Signature.is) (sealed_signature s stamp b signed.signature written.field-0 own signs writes)

pub returns-in_ok-write_cert-in-Certificate-clause-sealed : goal.returns-in_ok-write_cert-in-Certificate-clause-sealed
returns-in_ok-write_cert-in-Certificate-clause-sealed g c =
    let s : Setting = record { config = c.args.config.now; payload = g.J.Seals.payload c.args.sealer.now; valid = g.J.Seals.valid c.args.sealer.now } in
    let stamp = c.args.stamp.now in
    let b = c.in-Certificate.block in
    let signed = c.in_ok-signature-in-Certificate in
    let written = c.in_ok-write_cert-in-Certificate in
    let own : HasSession s.config (Certificate b) = rw c.in-Certificate.is at c.requires.session in
    let octets = c.as_slice-in-Certificate.ensures ∙ c.in_ok-octets-in-Certificate.ensures in
    let signs : Signs s (unsigned_certificate_text s.config.head stamp b) signed.signature
    = record { some_octet = signed.ensures.some_octet; at_most_1024 = signed.ensures.at_most_1024; valid = rw octets at signed.ensures.valid } in
    let writes : WritesCertificate s stamp (record b { signature = signed.signature }) written.field-0
    = subst (λ b'. WritesCertificate s stamp b' written.field-0) c.with_signature-block-in-Certificate.ensures
    (record { text = written.ensures.text; read = written.ensures.read; signed = written.ensures.signed; session = written.ensures.session }) in
    subst (λ due. IsSealed s stamp due written.field-0) (sym c.in-Certificate.is) (sealed_certificate s stamp b signed.signature written.field-0 own signs writes)
