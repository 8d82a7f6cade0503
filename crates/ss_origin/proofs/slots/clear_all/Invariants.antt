use Rattle.std.proofs.Common.{◌≡◌, map, take, drop}
use Rattle.ss_origin.specs.Step.{group_flushed}
use Rattle.ss_origin.proofs.slots.clear_all.Given as goal

abbrev pub invariant-loop-slot : goal.invariant-loop-slot
invariant-loop-slot l = record {
  done : take l.slot-index l.slots ≡ map group_flushed (take l.slot-index l.initial.slots);
  left : drop l.slot-index l.slots ≡ drop l.slot-index l.initial.slots;
}
