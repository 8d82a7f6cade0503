use Rattle.std.proofs.Common.{cond, [], ◌∷◌, ◌++◌, length, sym, ap, ◌∙◌}
use Rattle.std.proofs.lemmas.Result.{IfOk-weaker}
use Rattle.ss_report.specs.declared.runs.carrying.Extent.{Extent}
use Rattle.ss_report.specs.runs.CarriedSoFar.{carried_verified}
use Rattle.ss_report.proofs.of_carrying.CarriedBlocks.{known_before, knows_verified}
use Rattle.ss_report.proofs.runs.carrying.carry_verified.Goals as goal

pub returns-clause-carried : goal.returns-clause-carried
returns-clause-carried c = λ r before b knows at of said.
    let block = c.args.block.now in
    let e : Extent = record { session = c.args.session; index = c.index.result; length = length c.as_slice.result.now } in
    let first = known_before r before c.args.carried.now.known knows b block said e (sym of) c.index.ensures (ap length (c.as_slice.ensures ∙ c.fragment.ensures)) in
    let places = c.args.carried.now.places.items in
    IfOk-weaker c.carry_first.result _ _
    (λ done is. is ∙ (λ i. places ++ cond (first i) [] (sym at i ∷ [])) ∙ sym (ap (λ x. places ++ carried_verified r before b x) said))
    c.carry_first.ensures.carried

pub returns-clause-known : goal.returns-clause-known
returns-clause-known c = λ r before b knows of said verified.
    let block = c.args.block.now in
    let e : Extent = record { session = c.args.session; index = c.index.result; length = length c.as_slice.result.now } in
    IfOk-weaker c.carry_first.result _ _
    (λ done update. knows_verified r before c.args.carried.now.known knows b block said e (sym of) c.index.ensures (ap length (c.as_slice.ensures ∙ c.fragment.ensures)) c.carry_first.new.carried.known verified update)
    c.carry_first.ensures.known
