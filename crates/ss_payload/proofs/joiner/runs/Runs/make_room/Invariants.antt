use Rattle.std.proofs.Common.{◌≡◌, ◌/◌, ◌<◌, ◌≤◌, ◌⊎◌, ℕ}
use Rattle.ss_payload.specs.Slots.{slot_at, HasRun}
use Rattle.ss_payload.specs.RunSlots.{BelongsTo}
use Rattle.ss_payload.proofs.joiner.runs.Runs.make_room.Given as goal

abbrev pub invariant-loop-number : goal.invariant-loop-number
invariant-loop-number l = record {
  same : (i : ℕ) → slot_at l.self i ≡ slot_at l.initial.self i;
  made : (n : ℕ) → l.index / 16 ≤ n → n < l.number → HasRun l.self n;
  kept : (n : ℕ) → HasRun l.initial.self n → HasRun l.self n;
  alone : (n : ℕ) → HasRun l.self n → HasRun l.initial.self n ⊎ BelongsTo n l.index l.length;
}
