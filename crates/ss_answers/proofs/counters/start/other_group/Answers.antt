use Rattle.std.proofs.Common.{◌≡◌, ◌+◌, true, sym, ap, ◌∙◌, subst}
use Rattle.std.specs.Prelude.{◌&&◌, not}
use Rattle.ss_answers.specs.Start.{IsFirstOther, is_of_other}
use Rattle.ss_answers.proofs.Starts.{first_there}
use Rattle.ss_answers.proofs.counters.start.other_group.Goals as goal

pub returns-then-not-is_in : goal.returns-then-not-is_in
returns-then-not-is_in c =
    let s = c.args.session.now in
    let grouping = c.args.grouping.now in
    let cs = c.args.counters.now in
    let i = c.loop-counter.counter-index in
    let x = c.counter-item.result in
    let is : is_of_other s grouping x ≡ true
    = (λ j. sym c.is_of.ensures j && not (sym c.is_in.ensures j)) ∙ (λ j. c.if-is_of.true j && not (c.if-not-is_in.true j)) in
    subst (IsFirstOther s grouping cs) (ap (λ n. n + 1) (sym c.loop-counter.invariant.counted))
    (first_there s grouping cs i x c.loop-counter-test.true c.counter-item.is c.loop-counter.invariant.none is)
