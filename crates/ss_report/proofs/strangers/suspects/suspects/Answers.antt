use Rattle.std.proofs.Common.{◌++◌, ◌∙◌, [], ap, filter_map, sym, take}
use Rattle.std.specs.List.{cons_option}
use Rattle.std.proofs.lemmas.List.{take_all}
use Rattle.ss_report.specs.strangers.Strangers.{suspect_at}
use Rattle.ss_report.proofs.of_strangers.LeastReach.{nothing_known}
use Rattle.ss_report.proofs.of_strangers.Suspects.{suspects_more}
use Rattle.ss_report.proofs.strangers.suspects.suspects.Goals as goal

pub loop-block-init : goal.loop-block-init
loop-block-init c = λ up.
    let r = c.args.report.now in
    (nothing_known r.sessions r.refused c.args.blocks.now c.new-known.result c.new-known.ensures.empty, c.new-suspects.ensures.items)

pub loop-block-preserved : goal.loop-block-preserved
loop-block-preserved c = λ up.
    let bs = c.args.blocks.now in
    let r = c.args.report.now in
    let before = c.loop-block.invariant up in
    let has = (rw c.as_slice.ensures at c.in_ok-reaches.ensures) up.refused in
    let found = c.in_ok-suspect.ensures bs up has before.0 in (
      found.0,
      c.in_ok-add_suspect.ensures
          ∙ (λ k. before.1 k ++ cons_option (found.1 k) [])
          ∙ suspects_more (suspect_at bs r) bs c.loop-block.block-index c.block-item.result c.loop-block-test.true c.block-item.is,
    )

pub returns : goal.returns
returns c = λ up.
    let bs = c.args.blocks.now in
    c.from_vec.ensures
    ∙ (c.loop-block.invariant up).1
    ∙ ap (filter_map (suspect_at bs c.args.report.now)) (take_all c.loop-block.block-index bs c.loop-block-test.false)
