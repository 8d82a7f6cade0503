use Rattle.ss_report.proofs.of_writing.Writings.{writes_same}
use Rattle.ss_report.proofs.of_writing.QuestionLines.{each_lines, once_lines}
use Rattle.ss_report.proofs.of_writing.MarksSoFar.{marks_where_once}
use Rattle.ss_report.proofs.runs.questions.write_asked.Goals as goal

pub write_questions_once-requires : goal.write_questions_once-requires
write_questions_once-requires g c =
    marks_where_once c.args.payloads _ _ _ _ c.in-Once.is c.as_slice-sessions.ensures c.as_slice.ensures.value c.requires

pub returns-in-InEach : goal.returns-in-InEach
returns-in-InEach g c = writes_same _ _ _ _ c.write_questions.ensures (each_lines c.args.notation c.args.payloads _ _ c.in-InEach.is c.as_slice-sessions.ensures)

pub returns-in-Once : goal.returns-in-Once
returns-in-Once g c = writes_same _ _ _ _ c.write_questions_once.ensures (once_lines c.args.notation c.args.payloads _ _ c.in-Once.is c.as_slice-sessions.ensures)
