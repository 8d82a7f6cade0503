use Rattle.std.proofs.Common.{Some, sym, ap, ◌∙◌, refl}
use Rattle.std.specs.Prelude.{find, option_map}
use Rattle.std.proofs.lemmas.List.{take_all}
use Rattle.ss_review.specs.declared.keep.log_blocks.LogBlock.{LogBlock}
use Rattle.ss_report.specs.lines.Front.{is_weak}
use Rattle.ss_report.proofs.of_reports.FirstFound.{found_none_more, found_there}
use Rattle.ss_report.proofs.lines.front.first_weak.Goals as goal

pub loop-block-init : goal.loop-block-init
loop-block-init c = λ up. refl

pub returns-then-is_weak : goal.returns-then-is_weak
returns-then-is_weak c = λ up.
    let p = is_weak c.args.refused.now in
    let passes = ap p (sym c.block-item.is) ∙ sym (c.is_weak.ensures up) ∙ c.if-is_weak.true in
    ap (λ (b : LogBlock). Some b.place) c.block-item.is
    ∙ ap (option_map (λ (b : LogBlock). b.place)) (sym (found_there p c.args.blocks.now c.loop-block.block-index _ c.loop-block-test.true (c.loop-block.invariant up) passes))

pub loop-block-preserved : goal.loop-block-preserved
loop-block-preserved c = λ up.
    let p = is_weak c.args.refused.now in
    found_none_more p c.args.blocks.now c.loop-block.block-index _ c.loop-block-test.true (c.loop-block.invariant up)
    (ap p (sym c.block-item.is) ∙ sym (c.is_weak.ensures up) ∙ c.if-is_weak.false)

pub returns : goal.returns
returns c = λ up.
    ap (option_map (λ (b : LogBlock). b.place)) (sym (c.loop-block.invariant up) ∙ ap (find (is_weak c.args.refused.now)) (take_all c.loop-block.block-index c.args.blocks.now c.loop-block-test.false))
