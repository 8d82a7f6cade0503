use Rattle.std.proofs.Common.{◌++◌, take, flat_map, refl, sym, ap, ◌∙◌}
use Rattle.std.proofs.lemmas.List.{take_all, map-id}
use Rattle.ss_block.specs.declared.block.Group.{Group}
use Rattle.ss_block.specs.Order.{group_cmp}
use Rattle.ss_block.specs.OrderLaws.{group_cmp_total, group_cmp_exact}
use Rattle.ss_review.specs.declared.counted.counter.Counter.{Counter}
use Rattle.ss_review.specs.Ordered.{in_order}
use Rattle.ss_review.specs.counted.Kept.{group_said, groups_in}
use Rattle.ss_review.specs.counted.KeptSoFar.{led_to}
use Rattle.ss_review.proofs.of_counters.KeptNumbers.{led_more, groups_more}
use Rattle.ss_review.proofs.of_lists.Rising.{in_order_by}
use Rattle.ss_review.proofs.counted.group_tails.kept_groups.Goals as goal

pub loop-counter-preserved : goal.loop-counter-preserved
loop-counter-preserved c =
    let own = c.args.own.now in
    let i = c.loop-counter.counter-index in
    let x = c.counter-item.result in
    c.in_ok-add_group.ensures
    ∙ ap (λ gs. gs ++ group_said x.now.counts) c.loop-counter.invariant
    ∙ sym (ap (flat_map (λ (d : Counter). group_said d.counts)) (led_more own i x c.loop-counter-test.true c.counter-item.is) ∙ groups_more (led_to (take i own)) x.now)

pub returns : goal.returns
unfolding groups_in
returns c =
    let own = c.args.own.now in
    let said = c.loop-counter.groups.items in
    sym (map-id c.put_in_order.new.items.items)
    ∙ in_order_by group_cmp_total group_cmp_exact (λ (g : Group). g) group_cmp (λ a b. refl) said c.put_in_order.new.items.items c.put_in_order.ensures.rises c.put_in_order.ensures.keeps c.put_in_order.ensures.adds_none
    ∙ ap (in_order group_cmp) (map-id said)
    ∙ ap (in_order group_cmp) c.loop-counter.invariant
    ∙ ap (λ cs. in_order group_cmp (flat_map (λ (d : Counter). group_said d.counts) (led_to cs))) (take_all c.loop-counter.counter-index own c.loop-counter-test.false)
