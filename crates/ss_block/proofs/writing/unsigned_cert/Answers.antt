use Rattle.std.proofs.Common.{ap, ◌∙◌}
use Rattle.ss_message.specs.Message.{has_names, has_raws}
use Rattle.ss_block.specs.Writing.{ssign_cert_element}
use Rattle.ss_block.proofs.BlockFields.{made_unsigned}
use Rattle.ss_block.proofs.WrittenCertificates.{names_unsigned, raws_unsigned}
use Rattle.ss_block.proofs.WrittenMessages.{written_of}
use Rattle.ss_block.proofs.writing.unsigned_cert.Goals as goal

pub message-requires-clause-names : goal.message-requires-clause-names
message-requires-clause-names c =
    ap has_names (made_unsigned ssign_cert_element _ _ _ c.in_ok-element.ensures c.in_ok-parameters.ensures) ∙ names_unsigned c.args.block.now

pub message-requires-clause-raws : goal.message-requires-clause-raws
message-requires-clause-raws c =
    ap has_raws (made_unsigned ssign_cert_element _ _ _ c.in_ok-element.ensures c.in_ok-parameters.ensures) ∙ raws_unsigned c.args.block.now c.assure_in_range.ensures

pub returns : goal.returns
returns c =
    written_of c.args.head.now c.args.stamp _ _ c.message.result
    (made_unsigned ssign_cert_element _ _ _ c.in_ok-element.ensures c.in_ok-parameters.ensures) c.message.ensures
