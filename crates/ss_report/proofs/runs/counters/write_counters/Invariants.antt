use Rattle.std.proofs.Common.{take, flat_map, length}
use Rattle.std.specs.Prelude.{zip}
use Rattle.ss_frame.specs.Watched.{sink_of}
use Rattle.ss_report.specs.log.Writing.{Writes}
use Rattle.ss_report.specs.runs.Counters.{counters_beside}
use Rattle.ss_report.proofs.runs.counters.write_counters.Given as goal

abbrev pub invariant-loop-session : goal.invariant-loop-session
invariant-loop-session g l = Writes (sink_of g.W.Write.contents l.initial.writer) (sink_of g.W.Write.contents l.writer) (flat_map (counters_beside l.notation) (take (length l.yielded) (zip l.sessions l.counted)))
