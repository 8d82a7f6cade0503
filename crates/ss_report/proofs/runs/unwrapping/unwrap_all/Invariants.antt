use Rattle.std.proofs.Common.{◌≡◌, map, take, drop}
use Rattle.ss_report.specs.runs.Extraction.{out_of_wrap}
use Rattle.ss_report.proofs.runs.unwrapping.unwrap_all.Given as goal

abbrev pub invariant-loop-message : goal.invariant-loop-message
invariant-loop-message l = record {
  done : take l.message-index l.messages ≡ map out_of_wrap (take l.message-index l.initial.messages);
  left : drop l.message-index l.messages ≡ drop l.message-index l.initial.messages;
}
