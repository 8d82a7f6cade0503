use Rattle.std.proofs.Common.{◌+◌, ◌≤◌, length}
use Rattle.ss_answers.proofs.CounterParts.{StandsAt}
use Rattle.ss_answers.proofs.counters.lines.read_counter_lines.Given as goal

abbrev pub invariant-loop-rest : goal.invariant-loop-rest
invariant-loop-rest l = record {
  stands : StandsAt l.text l.counters.items l.ended l.parts l.rest;
  counted : length l.counters.items + l.parts + length l.rest ≤ length l.text;
}

abbrev pub decreases-loop-rest : goal.decreases-loop-rest
decreases-loop-rest l = length l.rest
