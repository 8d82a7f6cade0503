use Rattle.std.proofs.Common.{◌≡◌, [], ◌++◌, length, Some, refl, sym, ap, subst, ◌∙◌}
use Rattle.std.specs.List.{cons_option}
use Rattle.std.proofs.lemmas.Result.{IfOk-weaker}
use Rattle.ss_review.specs.keep.BlockMessage.{BlockMessage, Hashes}
use Rattle.ss_review.specs.keep.Contents.{block_with, said_in}
use Rattle.ss_report.specs.runs.CarriedSoFar.{KnowsExtents, carried_at}
use Rattle.ss_report.proofs.of_carrying.CarriedBlocks.{knows_signature}
use Rattle.ss_report.proofs.runs.carrying.carry_read.Goals as goal

pub returns-in-Signature-clause-carried : goal.returns-in-Signature-clause-carried
returns-in-Signature-clause-carried c = λ before knows.
    let b : BlockMessage = record { place = c.args.place; count = length c.in-Signature.block.hashes; session = c.in-Some.session; said = Hashes c.in-Signature.block; signed = c.in-Some-signed.field-0 } in
    let is : block_with c.args.place (said_in c.args.read.now.reading) c.args.read.now.session c.args.read.now.signed ≡ Some b = λ i. block_with c.args.place (said_in (c.in-Signature.is i)) (c.in-Some.is i) (c.in-Some-signed.is i) in
    IfOk-weaker c.carry_signature.result _ _
    (λ done e. e ∙ ap (λ o. c.args.carried.now.places.items ++ carried_at c.args.report.now before o) (sym is))
    (c.carry_signature.ensures before c.in-Some-signed.field-0)

pub returns-in-Signature-clause-known : goal.returns-in-Signature-clause-known
returns-in-Signature-clause-known c = λ before knows.
    let r = c.args.report.now in
    let b : BlockMessage = record { place = c.args.place; count = length c.in-Signature.block.hashes; session = c.in-Some.session; said = Hashes c.in-Signature.block; signed = c.in-Some-signed.field-0 } in
    let is : block_with c.args.place (said_in c.args.read.now.reading) c.args.read.now.session c.args.read.now.signed ≡ Some b = λ i. block_with c.args.place (said_in (c.in-Signature.is i)) (c.in-Some.is i) (c.in-Some-signed.is i) in
    IfOk-weaker c.carry_signature.result _ _
    (λ done e. subst (λ o. KnowsExtents r (before ++ cons_option o []) c.args.carried.now.known) (sym is) (knows_signature r before c.args.carried.now.known knows b c.in-Signature.block refl))
    (c.carry_signature.ensures before c.in-Some-signed.field-0)
