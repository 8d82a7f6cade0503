use Rattle.std.proofs.Common.{◌≡◌}
use Rattle.std.specs.Prelude.{true, false}
use Rattle.ss_payload.specs.RunSlots.{IsWritten, SomeDiffersIn, NoneDiffersIn}
use Rattle.ss_payload.proofs.joiner.runs.write.Given as goal

abbrev pub invariant-loop-j : goal.invariant-loop-j
invariant-loop-j l = record {
  written : IsWritten l.initial.run l.run l.at l.piece l.j;
  some : l.differs ≡ true → SomeDiffersIn l.initial.run l.at l.piece;
  none : l.differs ≡ false → NoneDiffersIn l.initial.run l.at l.piece l.j;
}
