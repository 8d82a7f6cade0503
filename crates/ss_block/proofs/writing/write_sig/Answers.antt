use Rattle.std.proofs.Common.{◌≡◌, Some, ap, ◌∙◌}
use Rattle.ss_message.specs.Message.{has_names, has_raws}
use Rattle.ss_block.specs.declared.block.BlockHeader.{BlockHeader}
use Rattle.ss_block.specs.declared.reading.Reading.TheVariants as readings
use Rattle.ss_block.specs.Reading.{reading}
use Rattle.ss_block.specs.Session.{session}
use Rattle.ss_block.specs.Signed.{signed}
use Rattle.ss_block.specs.Writing.{signature_text, unsigned_signature_text, head_session, ssign_element}
use Rattle.ss_block.proofs.BlockFields.{made_signed}
use Rattle.ss_block.proofs.WrittenSignatures.{names_signed, raws_signed}
use Rattle.ss_block.proofs.WrittenMessages.{written_of}
use Rattle.ss_block.proofs.Written.{signature_is_read, holds}
use Rattle.ss_block.proofs.writing.write_sig.Goals as goal

pub message-requires-clause-names : goal.message-requires-clause-names
message-requires-clause-names c =
    ap has_names (made_signed ssign_element _ _ _ _ _ _ c.in_ok-element.ensures c.in_ok-put_sign.ensures c.in_ok-parameters.ensures (ap (λ (h : BlockHeader). h.signature) c.header.ensures))
    ∙ names_signed c.args.block.now

pub message-requires-clause-raws : goal.message-requires-clause-raws
message-requires-clause-raws c =
    ap has_raws (made_signed ssign_element _ _ _ _ _ _ c.in_ok-element.ensures c.in_ok-put_sign.ensures c.in_ok-parameters.ensures (ap (λ (h : BlockHeader). h.signature) c.header.ensures))
    ∙ raws_signed c.args.block.now c.assure_signature.ensures.range

pub returns-clause-text : goal.returns-clause-text
returns-clause-text c =
    written_of c.args.head.now c.args.stamp _ _ c.message.result (made_signed ssign_element _ _ _ _ _ _ c.in_ok-element.ensures c.in_ok-put_sign.ensures c.in_ok-parameters.ensures (ap (λ (h : BlockHeader). h.signature) c.header.ensures)) c.message.ensures

pub returns-clause-read : goal.returns-clause-read
returns-clause-read c =
    holds c.message.result (signature_text c.args.head.now c.args.stamp c.args.block.now) (λ t. reading t ≡ readings.Signature c.args.block.now)
    (written_of c.args.head.now c.args.stamp _ _ c.message.result (made_signed ssign_element _ _ _ _ _ _ c.in_ok-element.ensures c.in_ok-put_sign.ensures c.in_ok-parameters.ensures (ap (λ (h : BlockHeader). h.signature) c.header.ensures)) c.message.ensures)
    (signature_is_read c.args.head.now c.args.stamp c.args.block.now c.assure_in_range.ensures c.assure_timestamp.ensures c.assure_signature.ensures.range c.assure_signature.ensures.hashes c.assure_signature.ensures.signature c.requires).read

pub returns-clause-signed : goal.returns-clause-signed
returns-clause-signed c =
    holds c.message.result (signature_text c.args.head.now c.args.stamp c.args.block.now) (λ t. signed t ≡ Some (unsigned_signature_text c.args.head.now c.args.stamp c.args.block.now))
    (written_of c.args.head.now c.args.stamp _ _ c.message.result (made_signed ssign_element _ _ _ _ _ _ c.in_ok-element.ensures c.in_ok-put_sign.ensures c.in_ok-parameters.ensures (ap (λ (h : BlockHeader). h.signature) c.header.ensures)) c.message.ensures)
    (signature_is_read c.args.head.now c.args.stamp c.args.block.now c.assure_in_range.ensures c.assure_timestamp.ensures c.assure_signature.ensures.range c.assure_signature.ensures.hashes c.assure_signature.ensures.signature c.requires).signed

pub returns-clause-session : goal.returns-clause-session
returns-clause-session c =
    holds c.message.result (signature_text c.args.head.now c.args.stamp c.args.block.now) (λ t. session t ≡ Some (head_session c.args.head.now c.args.block.now.rsid))
    (written_of c.args.head.now c.args.stamp _ _ c.message.result (made_signed ssign_element _ _ _ _ _ _ c.in_ok-element.ensures c.in_ok-put_sign.ensures c.in_ok-parameters.ensures (ap (λ (h : BlockHeader). h.signature) c.header.ensures)) c.message.ensures)
    (signature_is_read c.args.head.now c.args.stamp c.args.block.now c.assure_in_range.ensures c.assure_timestamp.ensures c.assure_signature.ensures.range c.assure_signature.ensures.hashes c.assure_signature.ensures.signature c.requires).session
