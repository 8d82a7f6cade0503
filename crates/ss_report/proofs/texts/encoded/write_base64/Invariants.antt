use Rattle.std.proofs.Common.{length}
use Rattle.ss_frame.specs.Watched.{sink_of}
use Rattle.ss_report.proofs.of_writing.EncodedSoFar.{EncodedSoFar}
use Rattle.ss_report.proofs.texts.encoded.write_base64.Given as goal

abbrev pub invariant-loop-rest : goal.invariant-loop-rest
invariant-loop-rest g l = EncodedSoFar (sink_of g.W.Write.contents l.initial.writer) (sink_of g.W.Write.contents l.writer) l.fn.octets l.rest

abbrev pub decreases-loop-rest : goal.decreases-loop-rest
decreases-loop-rest g l = length l.rest
