use Rattle.std.proofs.Common.{◌∙◌}
use Rattle.ss_review.proofs.of_counters.CountedTold.{gbcs_in_order}
use Rattle.ss_review.proofs.counted.counting.in_order.Goals as goal

pub returns : goal.returns
returns c =
    let gbcs = c.from_vec.ensures ∙ gbcs_in_order c.args.found.gbcs.items c.put_in_order.new.items.items c.put_in_order.ensures.rises c.put_in_order.ensures.keeps c.put_in_order.ensures.adds_none in
    λ i. record { session = c.in_ok-try_clone.ensures i; gbcs = gbcs i }
