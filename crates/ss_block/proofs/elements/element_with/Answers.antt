use Rattle.std.proofs.Common.{get_or, ◌∙◌, ap, List}
use Rattle.ss_message.specs.declared.message.Element.{Element}
use Rattle.ss_block.proofs.Lookups.{found_with, none_with}
use Rattle.ss_block.proofs.elements.element_with.Goals as goal

pub returns-in_err-place-clause-value : goal.returns-in_err-place-clause-value
returns-in_err-place-clause-value c =
    let r = c.from_residual.ensures in
    rw r (none_with c.args.message.now.source.now c.args.id.now c.args.message.now.elements c.requires c.in_err-place.ensures.first)

pub returns-clause-value : goal.returns-clause-value
returns-clause-value c =
    let x = c.index-as_slice-place.result in
    let here = c.index-as_slice-place.is ∙ ap (λ (es : List Element). get_or es c.in_ok-place.place x) c.as_slice.ensures in
    found_with c.args.message.now.source.now c.args.id.now c.args.message.now.elements c.requires c.in_ok-place.place c.in_ok-place.ensures.first x here
