use Rattle.std.proofs.Common.{◌≡◌, ◌+◌, ◌++◌, length, sym, ap, ◌∙◌, subst, arith}
use Rattle.std.specs.List.{range_with_len}
use Rattle.std.proofs.lemmas.List.Elements.{All-get_or}
use Rattle.ss_origin.specs.Slots.{fresh, slot_in}
use Rattle.ss_origin.specs.Originator.{IsGroupState}
use Rattle.ss_origin.specs.Pending.{runs_pending, blocks_pending, pending_block}
use Rattle.ss_origin.proofs.PendingRuns.{count_within, length-blocks, blocks_more}
use Rattle.ss_origin.proofs.blocks.pending_blocks.Goals as goal

pub push_pending-requires-clause-group : goal.push_pending-requires-clause-group
push_pending-requires-clause-group c =
    let config = c.args.config.now in
    let slots = c.args.slots.now in
    subst (IsGroupState config) (sym c.slot.ensures.value) (All-get_or (IsGroupState config) slots c.loop-spri.spri fresh (omega arith) c.requires.groups)

pub push_pending-requires-clause-gbc : goal.push_pending-requires-clause-gbc
push_pending-requires-clause-gbc c =
    let slots = c.args.slots.now in
    let n = c.loop-spri.spri in
    let within = count_within slots n (omega arith) in
    let many = ap length c.loop-spri.invariant ∙ length-blocks c.args.config.now c.args.gbc slots (range_with_len 0 n) in
    let len = c.loop-spri.due.ok.0 in
    rw c.slot.ensures.value (omega arith)

pub loop-spri-preserved : goal.loop-spri-preserved
loop-spri-preserved c =
    let config = c.args.config.now in
    let slots = c.args.slots.now in
    let n = c.loop-spri.spri in
    let so_far = range_with_len 0 n in
    let many : length c.loop-spri.due.items ≡ length (runs_pending slots so_far) = ap length c.loop-spri.invariant ∙ length-blocks config c.args.gbc slots so_far in
    let len = c.loop-spri.due.ok.0 in
    let gbc : c.args.gbc + c.len.result ≡ c.args.gbc + length (runs_pending slots so_far) = omega arith in
    c.in_ok-push_pending.ensures
    ∙ ap (λ bs. bs ++ pending_block config n (c.args.gbc + c.len.result) c.slot.result.now) c.loop-spri.invariant
    ∙ ap (λ g. blocks_pending config c.args.gbc slots so_far ++ pending_block config n (c.args.gbc + c.len.result) g) c.slot.ensures.value
    ∙ ap (λ k. blocks_pending config c.args.gbc slots so_far ++ pending_block config n k (slot_in slots n)) gbc
    ∙ sym (blocks_more config c.args.gbc slots n)
