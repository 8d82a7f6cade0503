use Rattle.std.proofs.Common.{◌≡◌, List, map, ap, ◌∙◌, subst}
use Rattle.std.specs.Prelude.{IfOk}
use Rattle.ss_review.specs.declared.counted.counted_session.CountedSession.{CountedSession}
use Rattle.ss_review.specs.counted.CountedSoFar.{counted_in_order}
use Rattle.ss_review.proofs.of_counters.CountedTold.{all_counted}
use Rattle.ss_review.proofs.counted.counting.counted_sessions.Goals as goal

pub returns : goal.returns
returns c = λ says told marks.
    subst (λ (counted : List CountedSession). IfOk c.all_in_order.result (λ ss. ss ≡ counted))
    (ap (map counted_in_order) (c.in_ok-found.ensures says told marks) ∙ all_counted says c.args.blocks.now)
    c.all_in_order.ensures
