use Rattle.std.proofs.Common.{sym}
use Rattle.ss_message.specs.Layout.{element_value}
use Rattle.ss_block.proofs.SignatureCauses.{spoilt_names}
use Rattle.ss_block.proofs.signature_reading.signature_block.Goals as goal

pub returns-then-not-has_parameters : goal.returns-then-not-has_parameters
returns-then-not-has_parameters c = spoilt_names (element_value c.args.source.now c.args.element.now) (sym c.if-not-has_parameters.ensures)
