-- The lines of the groups so far.
use Rattle.std.proofs.Common.{take, flat_map}
use Rattle.ss_frame.specs.Watched.{sink_of}
use Rattle.ss_report.specs.log.Writing.{Writes}
use Rattle.ss_signing.specs.Ahead.{number_line}
use Rattle.ss_signing.proofs.ahead.write_numbers.Given as goal

abbrev pub invariant-loop-group : goal.invariant-loop-group
invariant-loop-group g l = Writes (sink_of g.W.Write.contents l.initial.writer) (sink_of g.W.Write.contents l.writer) (flat_map (number_line l.session l.sg) (take l.group-index l.numbers))
