use Rattle.std.proofs.Common.{take, refl, sym, ap, ◌∙◌}
use Rattle.std.specs.Prelude.{max}
use Rattle.ss_review.specs.counted.Kept.{gbc_in}
use Rattle.ss_review.specs.counted.KeptSoFar.{led_to}
use Rattle.ss_review.proofs.of_counters.KeptNumbers.{led_more, gbc_more}
use Rattle.ss_answers.proofs.counters.start.greatest_gbc.Goals as goal

pub loop-counter-init : goal.loop-counter-init
unfolding gbc_in
loop-counter-init c = refl

pub loop-counter-preserved : goal.loop-counter-preserved
loop-counter-preserved c =
    let own = c.args.own.now in
    let i = c.loop-counter.counter-index in
    let x = c.counter-item.result in
    c.max-greatest.ensures
    ∙ (λ j. max (c.loop-counter.invariant j) (c.blocks_said.ensures j))
    ∙ sym (ap gbc_in (led_more own i x c.loop-counter-test.true c.counter-item.is) ∙ gbc_more (led_to (take i own)) x.now)
