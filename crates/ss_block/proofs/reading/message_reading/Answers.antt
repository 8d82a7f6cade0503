use Rattle.std.proofs.Common.{sym, ap, ◌∙◌}
use Rattle.std.specs.Borrow.{Bor}
use Rattle.std.specs.Prelude.{codes, option_map}
use Rattle.ss_message.specs.declared.message.Element.{Element}
use Rattle.ss_message.specs.Layout.{element_value, element_values}
use Rattle.ss_block.proofs.Values.{raws_with}
use Rattle.ss_block.proofs.reading.message_reading.Goals as goal

pub read_certificate-requires-clause-raws : goal.read_certificate-requires-clause-raws
read_certificate-requires-clause-raws c =
    let source = c.args.message.now.source.now in
    let found = ap (option_map (λ (e : Bor Element). element_value source e.now)) (sym c.in-None-Some.is-1) ∙ c.element_with-certificate.ensures.value in
    raws_with (codes "ssign-cert") (element_values source c.args.message.now.elements) (element_value source c.in-None-Some.element.now) c.requires.raws found
