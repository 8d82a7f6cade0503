use Rattle.std.proofs.Common.{◌≡◌, Some, None, sym, ap, subst, ◌∙◌}
use Rattle.ss_signed.specs.Places.{first_block, IsSignPlace}
use Rattle.ss_signed.proofs.Placed.{found_place, no_place}
use Rattle.ss_signed.proofs.place.sign_place.Goals as goal

pub returns-in_err-element-clause-none : goal.returns-in_err-element-clause-none
returns-in_err-element-clause-none c =
    let m = c.args.message.now in
    let none : first_block m.source.now m.elements ≡ None = ap (first_block m.source.now) (sym c.as_slice.ensures) ∙ sym c.in_err-element.ensures in
    let r = c.from_residual.ensures in
    rw r (no_place m none)

pub end_of-requires : goal.end_of-requires
end_of-requires c =
    let m = c.args.message.now in
    let x = c.in_ok-element.element.now in
    let found : first_block m.source.now m.elements ≡ Some x = ap (first_block m.source.now) (sym c.as_slice.ensures) ∙ sym c.in_ok-element.ensures in
    (found_place m x c.requires found).within

pub returns-clause-found : goal.returns-clause-found
returns-clause-found c =
    let m = c.args.message.now in
    let x = c.in_ok-element.element.now in
    let found : first_block m.source.now m.elements ≡ Some x = ap (first_block m.source.now) (sym c.as_slice.ensures) ∙ sym c.in_ok-element.ensures in
    subst (IsSignPlace m) (sym c.end_of.ensures) (found_place m x c.requires found)
