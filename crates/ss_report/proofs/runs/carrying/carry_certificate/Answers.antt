use Rattle.std.proofs.Common.{◌&&◌, not, ◌++◌, refl, sym, ap, ◌∙◌}
use Rattle.std.proofs.lemmas.Result.{IfOk-weaker}
use Rattle.ss_review.specs.keep.BlockMessage.{BlockMessage, Fragment}
use Rattle.ss_report.specs.runs.Carrying.{is_refused_in}
use Rattle.ss_report.proofs.of_carrying.CarriedBlocks.{is_joined_there, carried_judged, knows_unverified}
use Rattle.ss_report.proofs.runs.carrying.carry_certificate.Goals as goal

pub returns-in_default-clause-known : goal.returns-in_default-clause-known
returns-in_default-clause-known c = λ before octets knows.
    let r = c.args.report.now in
    let b : BlockMessage = record { place = c.args.place; count = 0; session = c.args.session.now; said = Fragment c.args.block.now; signed = octets } in
    knows_unverified r before c.args.carried.now.known knows b (ap (λ j. j && not (is_refused_in r b)) c.in_default.ensures)

pub returns-then-is_refused-clause-known : goal.returns-then-is_refused-clause-known
returns-then-is_refused-clause-known c = λ before octets knows.
    let r = c.args.report.now in
    let s = c.args.session.now in
    let b : BlockMessage = record { place = c.args.place; count = 0; session = s; said = Fragment c.args.block.now; signed = octets } in
    let joined = is_joined_there r s c.in-Some.reported.now (rw c.in-Some.reported-is at c.in-Some.ensures) in
    let refused = sym c.is_refused.ensures ∙ c.if-is_refused.true in
    knows_unverified r before c.args.carried.now.known knows b (λ i. joined i && not (refused i))

pub returns-clause-carried : goal.returns-clause-carried
returns-clause-carried c = λ before octets knows.
    let r = c.args.report.now in
    let s = c.args.session.now in
    let b : BlockMessage = record { place = c.args.place; count = 0; session = s; said = Fragment c.args.block.now; signed = octets } in
    let told = rw c.in-Some.reported-is at c.in-Some.ensures in
    let joined = is_joined_there r s c.in-Some.reported.now told in
    let kept = sym c.is_refused.ensures ∙ c.if-is_refused.false in
    IfOk-weaker c.carry_verified.result _ _
    (λ done is. is ∙ ap (λ ps. c.args.carried.now.places.items ++ ps) (sym (carried_judged r before b joined kept)))
    (c.carry_verified.ensures.carried r before b knows refl (sym told.session_is) refl)

pub returns-clause-known : goal.returns-clause-known
returns-clause-known c = λ before octets knows.
    let r = c.args.report.now in
    let s = c.args.session.now in
    let b : BlockMessage = record { place = c.args.place; count = 0; session = s; said = Fragment c.args.block.now; signed = octets } in
    let told = rw c.in-Some.reported-is at c.in-Some.ensures in
    let joined = is_joined_there r s c.in-Some.reported.now told in
    let kept = sym c.is_refused.ensures ∙ c.if-is_refused.false in
    c.carry_verified.ensures.known r before b knows (sym told.session_is) refl (λ i. joined i && not (kept i))
