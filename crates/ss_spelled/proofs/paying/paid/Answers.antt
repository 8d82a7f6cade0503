use Rattle.std.proofs.Common.{◌<◌, ap, arith, rules}
use Rattle.std.proofs.lemmas.List.Sums.{sum_by_more, sum_by_more_le}
use Rattle.ss_spelled.specs.Fronts.{fragment_cost, front_cost}
use Rattle.ss_spelled.proofs.paying.paid.Goals as goal

pub returns-in_err-left-2-clause-none : goal.returns-in_err-left-2-clause-none
returns-in_err-left-2-clause-none c =
    let more = sum_by_more_le (fragment_cost c.args.front.now) c.args.fragments.now c.loop-fragment.fragment-index c.fragment-item.result c.loop-fragment-test.true in
    let item = ap (λ f. fragment_cost c.args.front.now f) c.fragment-item.is in
    let less : c.args.left < front_cost c.args.fragments.now c.args.front.now = omega (arith, more, item, c.loop-fragment.invariant, c.in_err-left-2.ensures, c.fragment_cost.ensures) in
    search (rules, less)

pub loop-fragment-preserved : goal.loop-fragment-preserved
loop-fragment-preserved c =
    let more = sum_by_more (fragment_cost c.args.front.now) c.args.fragments.now c.loop-fragment.fragment-index c.fragment-item.result c.loop-fragment-test.true in
    let item = ap (λ f. fragment_cost c.args.front.now f) c.fragment-item.is in
    omega (arith, more, item, c.loop-fragment.invariant)
