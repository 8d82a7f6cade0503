use Rattle.std.proofs.Common.{◌≡◌, length, map, take, drop}
use Rattle.ss_report.specs.runs.Extraction.{out_of_wrap}
use Rattle.ss_report.proofs.runs.unwrapping.unwrap_held.Given as goal

abbrev pub invariant-loop-place : goal.invariant-loop-place
invariant-loop-place l = record {
  size : length l.messages ≡ length l.initial.messages;
  done : take l.place l.messages ≡ map out_of_wrap (take l.place l.initial.messages);
  left : drop l.place l.messages ≡ drop l.place l.initial.messages;
}
