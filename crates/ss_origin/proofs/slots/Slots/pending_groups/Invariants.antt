use Rattle.std.proofs.Common.{◌≡◌, ◌≤◌, length}
use Rattle.std.specs.List.{range_with_len}
use Rattle.ss_origin.specs.Pending.{runs_pending}
use Rattle.ss_origin.proofs.slots.Slots.pending_groups.Given as goal

abbrev pub invariant-loop-spri : goal.invariant-loop-spri
invariant-loop-spri l = record {
  counted : l.count ≡ length (runs_pending l.self (range_with_len 0 l.spri));
  few : l.count ≤ l.spri;
}
