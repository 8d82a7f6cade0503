use Rattle.std.proofs.Common.{take, flat_map}
use Rattle.ss_frame.specs.Watched.{sink_of}
use Rattle.ss_report.specs.log.Writing.{Writes}
use Rattle.ss_report.specs.texts.Ending.{damaged_line}
use Rattle.ss_report.proofs.texts.ending.write_damaged.Given as goal

abbrev pub invariant-loop-stretch : goal.invariant-loop-stretch
invariant-loop-stretch g l = Writes (sink_of g.W.Write.contents l.initial.writer) (sink_of g.W.Write.contents l.writer) (flat_map (damaged_line l.notation) (take l.stretch-index l.damaged))
