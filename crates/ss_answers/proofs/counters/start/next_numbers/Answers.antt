use Rattle.std.proofs.Common.{◌≡◌, ℕ, ◌++◌, sym, ap, ◌∙◌, subst, arith}
use Rattle.std.specs.List.{flat_map, range_with_len}
use Rattle.ss_origin.proofs.PendingRuns.{flat_more}
use Rattle.ss_review.specs.counted.Kept.{number_in}
use Rattle.ss_review.specs.counted.KeptSoFar.{led_to}
use Rattle.ss_answers.specs.Start.{number_if_said}
use Rattle.ss_answers.proofs.counters.start.next_numbers.Goals as goal

pub loop-spri-preserved : goal.loop-spri-preserved
loop-spri-preserved c =
    let own = led_to c.args.own.now in
    let sg = c.args.sg in
    let n = c.loop-spri.spri in
    let f = λ (spri : ℕ). number_if_said spri (number_in own (record { sg = sg; spri = spri })) in
    c.in_ok-add_number.ensures
    ∙ ap (λ ns. ns ++ number_if_said n c.greatest_number-number.result) c.loop-spri.invariant
    ∙ ap (λ k. flat_map f (range_with_len 0 n) ++ number_if_said n k) c.greatest_number-number.ensures
    ∙ sym (flat_more f n)

pub returns : goal.returns
returns c =
    let own = led_to c.args.own.now in
    let sg = c.args.sg in
    let f = λ (spri : ℕ). number_if_said spri (number_in own (record { sg = sg; spri = spri })) in
    let end : c.loop-spri.spri ≡ 192 = omega (arith, c.loop-spri.auto.spri-end, c.loop-spri-test.false) in
    subst (λ n. c.loop-spri.numbers.items ≡ flat_map f (range_with_len 0 n)) end c.loop-spri.invariant
