use Rattle.std.proofs.Common.{◌≡◌, ◌-◌, List, length, Some, sym, ap, ◌∙◌, arith}
use Rattle.std.specs.List.{slice_get}
use Rattle.ss_message.specs.declared.message.Parameter.{Parameter}
use Rattle.ss_signed.proofs.Ends.{end_last}
use Rattle.ss_signed.proofs.place.end_of.Goals as goal

pub overflow_add-result : goal.overflow_add-result
overflow_add-result c =
    let ps : List Parameter = c.args.element.now.parameters in
    let last : slice_get ps (length ps - 1) ≡ Some c.in-Some.parameter.now = ap (λ (xs : List Parameter). slice_get xs (length xs - 1)) (sym c.as_slice.ensures) ∙ sym c.in-Some.ensures.value in
    let end = end_last c.args.element.now.id.end ps c.in-Some.parameter.now last in
    omega (arith, end, c.requires)

pub returns-in-Some : goal.returns-in-Some
returns-in-Some c =
    let ps : List Parameter = c.args.element.now.parameters in
    let last : slice_get ps (length ps - 1) ≡ Some c.in-Some.parameter.now = ap (λ (xs : List Parameter). slice_get xs (length xs - 1)) (sym c.as_slice.ensures) ∙ sym c.in-Some.ensures.value in
    sym (end_last c.args.element.now.id.end ps c.in-Some.parameter.now last)
