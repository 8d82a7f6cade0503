use Rattle.std.proofs.Common.{take, sym, ap, subst}
use Rattle.std.specs.Prelude.{unwrap_or}
use Rattle.std.specs.BTreeMap.{is_at}
use Rattle.std.specs.Map.{lookup}
use Rattle.ss_block.specs.Order.{group_cmp}
use Rattle.ss_review.specs.counted.Kept.{number_in}
use Rattle.ss_review.specs.counted.KeptSoFar.{led_to, KeepsNumbers}
use Rattle.ss_review.proofs.of_counters.KeptNumbers.{led_more}
use Rattle.ss_review.proofs.counted.group_tails.kept_numbers.Goals as goal

pub loop-counter-init : goal.loop-counter-init
unfolding number_in
loop-counter-init c = λ g. ap (λ entries. unwrap_or (lookup (is_at (group_cmp g)) entries) 0) c.new-numbers.ensures.empty

pub loop-counter-preserved : goal.loop-counter-preserved
loop-counter-preserved c =
    let own = c.args.own.now in
    let i = c.loop-counter.counter-index in
    subst (KeepsNumbers c.add_number.new.numbers) (sym (led_more own i c.counter-item.result c.loop-counter-test.true c.counter-item.is))
    (c.in_ok-add_number.ensures (led_to (take i own)) c.loop-counter.invariant)
