use Rattle.std.proofs.Common.{ℕ, ◌++◌, sym, ap, ◌∙◌}
use Rattle.std.specs.List.{range_with_len}
use Rattle.ss_origin.specs.Slots.{slot_in, number_if_known, next_numbers}
use Rattle.ss_origin.proofs.PendingRuns.{flat_more}
use Rattle.ss_origin.proofs.slots.Slots.next_numbers.Goals as goal

pub loop-spri-preserved : goal.loop-spri-preserved
loop-spri-preserved c =
    let slots = c.args.self.now in
    let n = c.loop-spri.spri in
    c.in_ok-push_known.ensures
    ∙ ap (λ ns. ns ++ number_if_known n c.slot.result.now) c.loop-spri.invariant
    ∙ ap (λ g. next_numbers slots (range_with_len 0 n) ++ number_if_known n g) c.slot.ensures.value
    ∙ sym (flat_more (λ (spri : ℕ). number_if_known spri (slot_in slots spri)) n)
