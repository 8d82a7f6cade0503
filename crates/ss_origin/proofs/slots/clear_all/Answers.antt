use Rattle.std.proofs.Common.{◌≡◌, ◌<◌, length, arith}
use Rattle.ss_origin.specs.Step.{group_flushed}
use Rattle.ss_origin.proofs.PendingRuns.{flush_more}
use Rattle.ss_origin.proofs.slots.clear_all.Goals as goal

pub loop-slot-preserved : goal.loop-slot-preserved
loop-slot-preserved c =
    let less : c.loop-slot.slot-index < length c.loop-slot.slots = omega arith in
    let within : c.loop-slot.slot-index < length c.args.slots.now = omega arith in
    let flushed_item : c.clear.new.self ≡ group_flushed c.slot-item.result = cc (c.clear.ensures, c.slot-item.is) in
    let step = flush_more c.loop-slot.slots c.args.slots.now c.loop-slot.slot-index c.slot-item.result c.clear.new.self less within c.loop-slot.invariant.done c.loop-slot.invariant.left c.slot-item.is flushed_item in
    record { done = step.0; left = step.1 }
