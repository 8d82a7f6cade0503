use Rattle.std.proofs.Common.{sym}
use Rattle.ss_message.specs.Layout.{element_value}
use Rattle.ss_block.proofs.CertificateCauses.{spoilt_names}
use Rattle.ss_block.proofs.certificate_reading.certificate_block.Goals as goal

pub returns-then-not-has_parameters : goal.returns-then-not-has_parameters
returns-then-not-has_parameters c = spoilt_names (element_value c.args.source.now c.args.element.now) (sym c.if-not-has_parameters.ensures)

pub named_block-requires-clause-names : goal.named_block-requires-clause-names
named_block-requires-clause-names c = sym c.if-not-has_parameters.ensures
