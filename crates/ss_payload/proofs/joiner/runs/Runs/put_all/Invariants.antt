use Rattle.std.proofs.Common.{◌≡◌, ◌/◌, ◌+◌, ◌-◌, ◌<◌, ◌≤◌, ℕ, length}
use Rattle.std.specs.Prelude.{true, false}
use Rattle.ss_payload.specs.Slots.{HasRun, IsPut, SomeDiffers, NoneDiffers}
use Rattle.ss_payload.proofs.joiner.runs.Runs.put_all.Given as goal

abbrev pub invariant-loop-start : goal.invariant-loop-start
invariant-loop-start l = record {
  within : l.start ≤ length l.fragment;
  room : (j : ℕ) → j < length l.fragment → HasRun l.self ((l.index + j) / 16);
  put : IsPut l.initial.self l.self l.index l.fragment l.start;
  some : l.differs ≡ true → SomeDiffers l.initial.self l.index l.fragment;
  none : l.differs ≡ false → NoneDiffers l.initial.self l.index l.fragment l.start;
  kept : (n : ℕ) → HasRun l.initial.self n → HasRun l.self n;
  alone : (n : ℕ) → HasRun l.self n → HasRun l.initial.self n;
}

abbrev pub decreases-loop-start : goal.decreases-loop-start
decreases-loop-start l = length l.fragment - l.start
