use Rattle.std.proofs.Common.{take, flat_map}
use Rattle.ss_frame.specs.Watched.{sink_of}
use Rattle.ss_report.specs.log.Writing.{Writes}
use Rattle.ss_report.proofs.of_writing.QuestionLines.{asked_lines}
use Rattle.ss_report.proofs.texts.question_text.write_questions.Given as goal

abbrev pub invariant-loop-session : goal.invariant-loop-session
invariant-loop-session g l = Writes (sink_of g.W.Write.contents l.initial.writer) (sink_of g.W.Write.contents l.writer) (flat_map (asked_lines l.notation) (take l.session-index l.sessions))
