use Rattle.ss_review.proofs.of_sessions.Covering.{nothing_reached, first_before, first_at_end}
use Rattle.ss_review.proofs.sessions.span.first_uncovered.Goals as goal

pub loop-span-init : goal.loop-span-init
loop-span-init c = nothing_reached c.args.spans.now

pub returns-then-span-reached : goal.returns-then-span-reached
returns-then-span-reached c =
    first_before c.args.spans.now c.loop-span.span-index c.loop-span.reached _ c.requires c.loop-span-test.true c.loop-span.invariant c.if-span-reached.true

pub returns : goal.returns
returns c = first_at_end c.args.spans.now c.loop-span.span-index c.loop-span.reached c.loop-span-test.false c.loop-span.invariant
