use Rattle.std.proofs.Common.{◌+◌, ◌-◌, ◌<◌, ◌≤◌, ℕ}
use Rattle.ss_payload.specs.Slots.{slot_at, IsOne, IsTextOf}
use Rattle.ss_payload.proofs.joiner.runs.Runs.text.Given as goal

abbrev pub invariant-loop-before : goal.invariant-loop-before
invariant-loop-before l = record {
  within : l.before ≤ l.total;
  written : ((k : ℕ) → k < l.total → IsOne (slot_at l.self (k + 1))) → IsTextOf l.self l.text.items l.before;
}

abbrev pub decreases-loop-before : goal.decreases-loop-before
decreases-loop-before l = l.total - l.before
