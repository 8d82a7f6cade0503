use Rattle.std.proofs.Common.{take, flat_map, length}
use Rattle.std.specs.Prelude.{zip}
use Rattle.ss_frame.specs.Watched.{sink_of}
use Rattle.ss_report.specs.log.Writing.{Writes}
use Rattle.ss_report.specs.texts.QuestionsOnce.{session_once_text}
use Rattle.ss_report.proofs.texts.questions_once.write_questions_once.Given as goal

abbrev pub invariant-loop-mark : goal.invariant-loop-mark
invariant-loop-mark g l = Writes (sink_of g.W.Write.contents l.initial.writer) (sink_of g.W.Write.contents l.writer) (flat_map (session_once_text l.notation) (take (length l.yielded) (zip l.marked l.sessions)))
