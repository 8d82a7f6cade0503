use Rattle.std.proofs.Common.{take, flat_map}
use Rattle.ss_frame.specs.Watched.{sink_of}
use Rattle.ss_report.specs.log.Writing.{Writes}
use Rattle.ss_report.proofs.of_writing.QuestionLines.{yes_line}
use Rattle.ss_report.proofs.texts.question_text.write_blocks.Given as goal

abbrev pub invariant-loop-block : goal.invariant-loop-block
invariant-loop-block g l = Writes (sink_of g.W.Write.contents l.initial.writer) (sink_of g.W.Write.contents l.writer) (flat_map (yes_line l.notation l.session) (take l.block-index l.block-items))
