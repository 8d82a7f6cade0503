use Rattle.std.proofs.Common.{[], ◌∷◌, ◌++◌, sym, ap, ◌∙◌}
use Rattle.ss_review.specs.counted.Kept.{counters_of}
use Rattle.ss_answers.proofs.Starts.{own_more}
use Rattle.ss_answers.proofs.counters.start.own_counters.Goals as goal

pub loop-counter-preserved : goal.loop-counter-preserved
loop-counter-preserved c =
    let cs = c.args.counters.now in
    let s = c.args.session.now in
    let i = c.loop-counter.counter-index in
    let x = c.counter-item.result in
    c.in_ok-add_own.ensures
    ∙ ap (λ own. own ++ counters_of (x ∷ []) s) c.loop-counter.invariant
    ∙ sym (own_more cs i x s c.loop-counter-test.true c.counter-item.is)
