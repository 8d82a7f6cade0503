use Rattle.std.proofs.Common.{◌++◌, get_or, flat_map, sym, ap, ◌∙◌}
use Rattle.std.proofs.lemmas.List.{take_all, get_or_default}
use Rattle.ss_block.specs.declared.block.Group.{Group}
use Rattle.ss_review.specs.counted.Kept.{number_in, number_behind, tail_between, tails_in}
use Rattle.ss_review.specs.counted.KeptSoFar.{led_to}
use Rattle.ss_review.proofs.of_counters.KeptNumbers.{tails_more}
use Rattle.ss_review.proofs.counted.group_tails.tails.Goals as goal

pub loop-group-preserved : goal.loop-group-preserved
loop-group-preserved c = λ are.
    let own = led_to c.args.own.now in
    let gs = c.args.groups.now in
    let kept = c.as_slice-group-items.result.now in
    let i = c.loop-group.group-index in
    let d : Group = record { sg = 0; spri = 0 } in
    let g = get_or kept i d in
    let end = c.number_of.ensures ∙ c.in_ok-numbers.ensures g in
    c.in_ok-add_tail.ensures
    ∙ (λ j. c.loop-group.invariant are j ++ tail_between g (c.number_behind-first.ensures are j) (end j))
    ∙ sym (tails_more own gs kept i g c.loop-group-test.true (sym (get_or_default kept i g d c.loop-group-test.true)))

pub returns : goal.returns
unfolding tails_in
returns c = λ are.
    let own = led_to c.args.own.now in
    let gs = c.args.groups.now in
    c.from_vec.ensures
    ∙ c.loop-group.invariant are
    ∙ ap (flat_map (λ (g : Group). tail_between g (number_behind gs g) (number_in own g))) (take_all c.loop-group.group-index c.as_slice-group-items.result.now c.loop-group-test.false ∙ c.as_slice-group-items.ensures.value ∙ c.in_ok-kept.ensures)
