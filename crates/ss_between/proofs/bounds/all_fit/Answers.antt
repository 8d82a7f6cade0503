use Rattle.std.proofs.Common.{◌<◌, ◌^◌, ap, subst, arith}
use Rattle.std.specs.Prelude.{All}
use Rattle.std.proofs.lemmas.List.{take_all}
use Rattle.std.proofs.lemmas.List.Elements.{All-more}
use Rattle.ss_review.specs.declared.counted.counter.Counter.{Counter}
use Rattle.ss_between.proofs.bounds.all_fit.Goals as goal

pub loop-counter-preserved : goal.loop-counter-preserved
loop-counter-preserved c =
    let counters = c.args.counters.now in
    let x = c.counter-item.result in
    let same = ap (λ (d : Counter). d.next) c.counter-item.is in
    All-more (λ (d : Counter). d.next < 2 ^ 64) counters c.loop-counter.counter-index x c.loop-counter-test.true c.loop-counter.invariant (omega (arith, c.if-prove.false, same))

pub returns : goal.returns
returns c = subst (All (λ (d : Counter). d.next < 2 ^ 64)) (take_all c.loop-counter.counter-index c.args.counters.now c.loop-counter-test.false) c.loop-counter.invariant
