use Rattle.std.proofs.Common.{ℕ, length, ap, ◌∙◌, arith}
use Rattle.std.specs.Prelude.{◌==◌, if◌then◌else◌}
use Rattle.ss_origin.specs.State.{GroupState}
use Rattle.ss_origin.proofs.PendingRuns.{count_more, at_most_one}
use Rattle.ss_origin.proofs.slots.Slots.pending_groups.Goals as goal

pub loop-spri-preserved : goal.loop-spri-preserved
loop-spri-preserved c =
    let runs : GroupState → ℕ = λ g. if length g.pending == 0 then 0 else 1 in
    let here = c.pending_runs-count.ensures ∙ ap runs c.slot.ensures.value in
    let more = count_more c.args.self.now c.loop-spri.spri in
    let one = at_most_one (length c.slot.result.now.pending == 0) in
    let counted = c.loop-spri.invariant.counted in
    let few = c.loop-spri.invariant.few in
    let is = c.pending_runs-count.ensures in
    record { counted = omega arith; few = omega arith }
