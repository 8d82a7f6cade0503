use Rattle.std.proofs.Common.{take, flat_map}
use Rattle.ss_frame.specs.Watched.{sink_of}
use Rattle.ss_report.specs.log.Writing.{Writes}
use Rattle.ss_report.specs.runs.Counters.{group_counter}
use Rattle.ss_report.proofs.runs.counters.write_group_counters.Given as goal

abbrev pub invariant-loop-group : goal.invariant-loop-group
invariant-loop-group g l = Writes (sink_of g.W.Write.contents l.initial.writer) (sink_of g.W.Write.contents l.writer) (flat_map (group_counter l.notation l.session) (take l.group-index l.groups))
