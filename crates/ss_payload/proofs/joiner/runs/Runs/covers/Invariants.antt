use Rattle.std.proofs.Common.{◌+◌, ◌-◌, ◌<◌, ◌≤◌, ℕ}
use Rattle.std.specs.Prelude.{◌≢◌}
use Rattle.ss_payload.specs.declared.joiner.slot.Slot.TheVariants.{Empty}
use Rattle.ss_payload.specs.Slots.{slot_at}
use Rattle.ss_payload.proofs.joiner.runs.Runs.covers.Given as goal

abbrev pub invariant-loop-before : goal.invariant-loop-before
invariant-loop-before l = record {
  within : l.before ≤ l.total;
  said : (k : ℕ) → k < l.before → slot_at l.self (k + 1) ≢ Empty;
}

abbrev pub decreases-loop-before : goal.decreases-loop-before
decreases-loop-before l = l.total - l.before
