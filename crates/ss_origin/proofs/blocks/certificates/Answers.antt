use Rattle.std.proofs.Common.{length, sym, ◌∙◌, subst}
use Rattle.std.specs.List.{All}
use Rattle.ss_payload.specs.CuttingLaws.{LiesWithin}
use Rattle.ss_payload.specs.Payload.{payload_text}
use Rattle.ss_block.specs.Block.{IsCertificate}
use Rattle.ss_origin.specs.Emission.{certificate_in}
use Rattle.ss_origin.proofs.Configs.{has_ranges}
use Rattle.ss_origin.proofs.Due.{pieces_within, certificates_fit, all_have_session}
use Rattle.ss_origin.proofs.blocks.certificates.Goals as goal

pub cut-requires-clause-some_size : goal.cut-requires-clause-some_size
cut-requires-clause-some_size c = (has_ranges c.args.config.now c.requires.config).some_octet

pub cut-requires-clause-at_most_9999 : goal.cut-requires-clause-at_most_9999
cut-requires-clause-at_most_9999 c = (has_ranges c.args.config.now c.requires.config).at_most_9999

pub certificates_of-requires-clause-within : goal.certificates_of-requires-clause-within
certificates_of-requires-clause-within c =
    let config = c.args.config.now in
    let text = payload_text c.args.payload.now in
    let cuts = c.in_ok-cuts.cuts in
    let are = rw (c.as_slice.ensures ∙ c.in_ok-text.ensures.text) at c.in_ok-cuts.ensures.pieces in
    subst (λ t. All (LiesWithin (length t) config.frag) c.as_slice-3.result.now) (sym (c.as_slice-2.ensures ∙ c.in_ok-text.ensures.text))
    (subst (λ cs. All (LiesWithin (length text) config.frag) cs) (sym c.as_slice-3.ensures)
    (pieces_within c.pieces_lie_within.ensures config text cuts c.requires.config are))

pub certificates_of-requires-clause-certificates : goal.certificates_of-requires-clause-certificates
certificates_of-requires-clause-certificates c =
    let config = c.args.config.now in
    let text = payload_text c.args.payload.now in
    let cuts = c.in_ok-cuts.cuts in
    let are = rw (c.as_slice.ensures ∙ c.in_ok-text.ensures.text) at c.in_ok-cuts.ensures.pieces in
    subst (λ t. All (λ piece. IsCertificate (certificate_in config t piece)) c.as_slice-3.result.now) (sym (c.as_slice-2.ensures ∙ c.in_ok-text.ensures.text))
    (subst (λ cs. All (λ piece. IsCertificate (certificate_in config text piece)) cs) (sym c.as_slice-3.ensures)
    (certificates_fit c.pieces_are_fragments.ensures config text cuts c.requires.config c.assure_in_range.ensures (c.texts_are_ascii.ensures c.args.payload.now) (c.texts_have_octets.ensures c.args.payload.now) c.requires.octets are))

pub returns-clause-session : goal.returns-clause-session
returns-clause-session c = all_have_session c.args.config.now c.as_slice-2.result.now c.as_slice-3.result.now c.certificates_of.result c.certificates_of.ensures
